-- The plain map of a list by a call that may give one of several results.

use Rattle.std.specs.Prelude.{List, [], ◌∷◌}

-- the results are those of the items, one for each, in order: `gives x r` says that `r` may come of `x`
abbrev pub IsMap : {I R : Type 0} → (I → R → Type 0) → List I → List R → Type 0
IsMap gives [] [] = Unit {0}
IsMap gives [] (r ∷ rs) = ⊥
IsMap gives (x ∷ xs) [] = ⊥
IsMap gives (x ∷ xs) (r ∷ rs) = gives x r × IsMap gives xs rs
