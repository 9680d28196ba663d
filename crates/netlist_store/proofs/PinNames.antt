-- The names of pins.

use Rattle.std.proofs.Common.{◌≡◌, true, false, not, ◌&&◌, List, ℕ, [], ◌∷◌, ◌++◌, length, ap, ◌∙◌, arith}
use Rattle.std.specs.Prelude.{◌==◌}
use Rattle.std.specs.Prelude.{Bool}
use Rattle.std.specs.List.{list_all}
use Rattle.std.proofs.lemmas.Bool.{false≢true, ne_eqb}
use Rattle.std.proofs.lemmas.List.Folds.{list_all-append}
use Rattle.timing_defs.specs.Names.{is_graphic, is_name}

and_right : (a b : Bool) → (a && b) ≡ true → b ≡ true
and_right true b h = h
and_right false b h = cc

-- the name `instance:pin`
pub joined_name : (a b : List ℕ) → is_name a ≡ true → is_name b ≡ true → is_name (a ++ 58 ∷ b) ≡ true
joined_name [] b h k = absurd (false≢true h)
joined_name (x ∷ xs) b h k =
    let some : (length (x ∷ xs ++ 58 ∷ b) == 0) ≡ false = ne_eqb (length (x ∷ xs ++ 58 ∷ b)) 0 (λ e. omega (arith, e)) in
    ap (λ t. not t && list_all is_graphic (x ∷ xs ++ 58 ∷ b)) some
    ∙ list_all-append is_graphic (x ∷ xs) (58 ∷ b)
    ∙ ap (λ t. t && list_all is_graphic (58 ∷ b)) (and_right (not (length (x ∷ xs) == 0)) (list_all is_graphic (x ∷ xs)) h)
    ∙ and_right (not (length b == 0)) (list_all is_graphic b) k
