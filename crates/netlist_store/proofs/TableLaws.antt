-- What tables with empty rows have at a number, as they are written.

use Rattle.std.proofs.Common.{◌≡◌, ℕ, suc, zero, ◌<◌, List, [], ◌∷◌, ◌++◌, length, set, Option, None, refl, sym, ap, ◌∙◌, inl, inr}
use Rattle.std.specs.Prelude.{nat_eq, option_and_then, if◌then◌else◌}
use Rattle.std.proofs.lemmas.Bool.Decides.{eqb_tells}
use Rattle.netlist_store.specs.Stores.{at}
use Rattle.netlist_store.proofs.OrderLaws.{get_set_same, get_set_other}

pub at_push : {X : Type 0} (rows : List (Option X)) (n : ℕ) → at (rows ++ None ∷ []) n ≡ at rows n
at_push [] zero = refl
at_push [] (suc n) = refl
at_push (r ∷ rs) zero = refl
at_push (r ∷ rs) (suc n) = at_push rs n

pub at_set : {X : Type 0} (rows : List (Option X)) (m : ℕ) (row : Option X) → m < length rows → (n : ℕ) → at (set rows m row) n ≡ (if nat_eq m n then row else at rows n)
at_set rows m row low n = elim (eqb_tells m n) [
  | inl h ↦ rw h.0 (ap (at (set rows m row)) (sym h.1) ∙ ap (option_and_then (λ r. r)) (get_set_same rows m row low))
  | inr h ↦ rw h.0 (ap (option_and_then (λ r. r)) (get_set_other rows m n row (λ e. h.1 (sym e))))
]
