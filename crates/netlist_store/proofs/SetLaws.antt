-- Members that are looked for at a place first.

use Rattle.std.proofs.Common.{◌≡◌, ℕ, zero, suc, Bool, true, false, List, [], ◌∷◌, refl, inl, inr}
use Rattle.std.specs.Prelude.{slice_get}
use Rattle.std.specs.List.{list_any}
use Rattle.std.specs.Option.{option_map_or}
use Rattle.std.proofs.lemmas.Bool.{cases_Bool, false≢true}

pub any_at : {X : Type 0} (p : X → Bool) (xs : List X) (at : ℕ) → option_map_or p (slice_get xs at) false ≡ true → list_any p xs ≡ true
any_at p [] zero h = absurd (false≢true h)
any_at p [] (suc at) h = absurd (false≢true h)
any_at p (x ∷ xs) zero h = rw h refl
any_at p (x ∷ xs) (suc at) h = elim (cases_Bool (p x)) [ inl e ↦ rw e refl | inr e ↦ rw e (any_at p xs at h) ]
