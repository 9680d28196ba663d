-- What several threads collect.

use Rattle.std.proofs.Common.{List, [], ◌∷◌, map, Result, Ok, Err}
use Rattle.std.specs.Prelude.{IfOk, MatchResult}
use Rattle.std.specs.List.{AllZip}
use Rattle.level_workers.specs.Mapped.{IsMap}

-- the results behind answers that are all of one kind
pub mapped_by : {I R A : Type 0} (P : I → A → Type 0) (answer : R → A) (items : List I) (rs : List R) → AllZip P items (map answer rs) → IsMap (λ x r. P x (answer r)) items rs
mapped_by P answer [] [] a = tt
mapped_by P answer [] (r ∷ rs) a = absurd a
mapped_by P answer (x ∷ xs) [] a = absurd a
mapped_by P answer (x ∷ xs) (r ∷ rs) a = (a.0, mapped_by P answer xs rs a.1)

-- what holds of the value of an answer that is there
pub match_ok : {V E : Type 0} {Q : V → Type 0} (P : V → Type 0) (N : E → Type 0) (v : Result V E) → MatchResult v P N → ((c : V) → P c → Q c) → IfOk v Q
match_ok P N (Ok c) m f = f c m
match_ok P N (Err e) m f = tt
