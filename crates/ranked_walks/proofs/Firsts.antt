-- The first of a claim, one after the other.

use Rattle.std.proofs.Common.{◌≡◌, ℕ, zero, suc, ◌≤◌, Bool, false, List, [], ◌∷◌, ◌++◌, length, arith}
use Rattle.std.specs.Prelude.{◌≢◌}
use Rattle.timing_defs.specs.Firsts.{AreFirst}
use Rattle.ranked_walks.specs.Searching.{IsLeft}

-- the best of what is left goes to the end
pub first_more : {X : Type 0} (before : X → X → Bool) (Is : X → Type 0) (xs : List X) (x : X) → AreFirst before (length xs) Is xs → Is x → IsLeft xs x
    → ((y : X) → Is y → IsLeft xs y → before y x ≡ false) → AreFirst before (length (xs ++ x ∷ [])) Is (xs ++ x ∷ [])
first_more before Is [] x first is left best = (is, λ y i. best y i tt, tt)
first_more before Is (z ∷ xs) x first is left best =
    (first.0, first.1, first_more before (λ y. Is y × (y ≢ z)) xs x first.2 (is, left.0) left.1 (λ y i l. best y i.0 (i.1, l)))

-- all that there are
pub first_all : {X : Type 0} (before : X → X → Bool) (Is : X → Type 0) (xs : List X) (count : ℕ) → AreFirst before (length xs) Is xs → length xs ≤ count
    → ((y : X) → Is y → IsLeft xs y → ⊥) → AreFirst before count Is xs
first_all before Is [] zero first low none = tt
first_all before Is [] (suc count) first low none = λ y i. none y i tt
first_all before Is (z ∷ xs) zero first low none = absurd (omega arith)
first_all before Is (z ∷ xs) (suc count) first low none =
    (first.0, first.1, first_all before (λ y. Is y × (y ≢ z)) xs count first.2 (omega arith) (λ y i l. none y i.0 (i.1, l)))

pub left_more : {X : Type 0} (xs : List X) (x y : X) → IsLeft xs y → (y ≢ x) → IsLeft (xs ++ x ∷ []) y
left_more [] x y l other = (other, tt)
left_more (z ∷ xs) x y l other = (l.0, left_more xs x y l.1 other)

pub left_less : {X : Type 0} (xs : List X) (x y : X) → IsLeft (xs ++ x ∷ []) y → IsLeft xs y × (y ≢ x)
left_less [] x y l = (tt, l.0)
left_less (z ∷ xs) x y l = let r = left_less xs x y l.1 in ((l.0, r.0), r.1)
