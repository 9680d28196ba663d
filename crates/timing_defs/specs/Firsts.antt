-- The first so many of all that there are, and all of them, in an order.

use Rattle.std.specs.Prelude.{ℕ, zero, suc, ◌≡◌, ◌≢◌, Bool, false, List, [], ◌∷◌, ⊤}

-- the first so many of all that there are: nothing comes before the first, and the others are the first of
-- what is left; fewer only where no more are left
abbrev pub AreFirst : {X : Type 0} → (X → X → Bool) → ℕ → (X → Type 0) → List X → Type 0
AreFirst before zero Is [] = ⊤
AreFirst before zero Is (x ∷ xs) = ⊥
AreFirst {X} before (suc count) Is [] = (y : X) → Is y → ⊥
AreFirst {X} before (suc count) Is (x ∷ xs) =
    Is x × ((y : X) → Is y → before y x ≡ false) × AreFirst before count (λ y. Is y × (y ≢ x)) xs

-- all that there are: nothing comes before the first, and the others are all of what is left
abbrev pub AreAll : {X : Type 0} → (X → X → Bool) → (X → Type 0) → List X → Type 0
AreAll {X} before Is [] = (y : X) → Is y → ⊥
AreAll {X} before Is (x ∷ xs) =
    Is x × ((y : X) → Is y → before y x ≡ false) × AreAll before (λ y. Is y × (y ≢ x)) xs
