-- Steps of the work on values: values, the numbers that wait, and those whose values were written.

use Rattle.std.specs.Prelude.{◌≡◌, ℕ, ◌<◌, ◌⊎◌, true, false, List, length, All, slice_index}
use Rattle.level_cone.specs.Waiting.{waits}
use Rattle.settling.specs.declared.turns.Outcome.{Outcome}
use Rattle.settling.specs.declared.turns.Outcome.TheVariants.{Settled, Unsettled, Beyond}
use Rattle.settling.specs.Settled.{is_among, AreLow, IsSettled}

-- a number waits, with some key
abbrev pub Waits : List ℕ → ℕ → Type 0
Waits queue a = (key : ℕ) × (waits queue key a ≡ true)

-- some numbers wait too, those below `n` among them all
pub record AreAdded (n : ℕ) (numbers old new : List ℕ) : Type 0 where
  pub kept : (a : ℕ) → Waits old a → Waits new a
  pub all : (a : ℕ) → a < n → is_among numbers a ≡ true → Waits new a
  pub within : (a : ℕ) → Waits new a → Waits old a ⊎ (a < n)

-- what was written was noted: other numbers have the values that they had
pub record IsNoted (n : ℕ) (t changed t' changed' : List ℕ) : Type 0 where
  pub kept : (a : ℕ) → is_among changed' a ≡ false → (is_among changed a ≡ false) × (slice_index t' a ≡ slice_index t a)
  pub within : All (λ a. a < n) changed → All (λ a. a < n) changed'

-- a number that is right, or whose value is found, is right, or waits
pub record IsStep (n : ℕ) (value : List ℕ → ℕ → ℕ) (numbers t queue changed t' queue' changed' : List ℕ) : Type 0 where
  pub count : length t' ≡ n
  pub low : AreLow t'
  pub each : (a : ℕ) → a < n → (slice_index t a ≡ value t a) ⊎ (is_among numbers a ≡ true) → (slice_index t' a ≡ value t' a) ⊎ Waits queue' a
  pub waiting : (a : ℕ) → Waits queue a → Waits queue' a
  pub within : (a : ℕ) → Waits queue' a → Waits queue a ⊎ (a < n)
  pub noted : IsNoted n t changed t' changed'

-- each number is right, or waits
pub record IsState (n : ℕ) (value : List ℕ → ℕ → ℕ) (t queue : List ℕ) : Type 0 where
  pub count : length t ≡ n
  pub low : AreLow t
  pub each : (a : ℕ) → a < n → (slice_index t a ≡ value t a) ⊎ Waits queue a
  pub within : (a : ℕ) → Waits queue a → a < n

-- all numbers are right
pub record IsDone (n : ℕ) (value : List ℕ → ℕ → ℕ) (t changed t' changed' : List ℕ) : Type 0 where
  pub settled : IsSettled n value t' (λ a. false)
  pub noted : IsNoted n t changed t' changed'

pub record IsGoneOn (n : ℕ) (value : List ℕ → ℕ → ℕ) (t changed t' queue' changed' : List ℕ) : Type 0 where
  pub state : IsState n value t' queue'
  pub noted : IsNoted n t changed t' changed'

-- what a turn leaves
abbrev pub IsTurned : ℕ → (List ℕ → ℕ → ℕ) → List ℕ → List ℕ → List ℕ → List ℕ → List ℕ → Outcome → Type 0
IsTurned n value t changed t' queue' changed' Settled = IsDone n value t changed t' changed'
IsTurned n value t changed t' queue' changed' Unsettled = IsGoneOn n value t changed t' queue' changed'
IsTurned n value t changed t' queue' changed' Beyond = Unit {0}
