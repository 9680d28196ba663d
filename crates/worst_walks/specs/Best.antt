-- The best of all things of which a claim holds.

use Rattle.std.specs.Prelude.{◌≡◌, Bool, false, if◌then◌else◌, Option, Some, None}

-- the claim holds of the best, and nothing of which it holds comes before it; None: it holds of nothing
abbrev pub BestOf : {X : Type 0} → (X → X → Bool) → (X → Type 0) → Option X → Type 0
BestOf {X} before P None = (x : X) → P x → ⊥
BestOf {X} before P (Some best) = P best × ((x : X) → P x → before x best ≡ false)

-- the one of two that comes before the other; the first where neither does
abbrev pub better : {X : Type 0} → (X → X → Bool) → Option X → Option X → Option X
better before None second = second
better before (Some x) None = Some x
better before (Some x) (Some y) = if before y x then Some y else Some x
