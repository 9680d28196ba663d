-- Values by number that a rule gives from the others.

use Rattle.std.specs.Prelude.{◌≡◌, ℕ, ◌<◌, nat_eq, Bool, false, List, length, All, slice_index, slice_set}
use Rattle.std.specs.List.{list_any}

abbrev pub is_among : List ℕ → ℕ → Bool
is_among numbers a = list_any (nat_eq a) numbers

abbrev pub AreLow : List ℕ → Type 0
AreLow values = All (λ v. v < 4294967295) values

-- where one value is written, the rule gives other values to the numbers behind it alone
pub record IsRule (n : ℕ) (value : List ℕ → ℕ → ℕ) (behind : ℕ → List ℕ) : Type 0 where
  pub local : (t : List ℕ) (x v a : ℕ) → length t ≡ n → a < n → is_among (behind x) a ≡ false → value (slice_set t x v) a ≡ value t a

-- each number below `n` has the value that the rule gives, but some
pub record IsSettled (n : ℕ) (value : List ℕ → ℕ → ℕ) (t : List ℕ) (but : ℕ → Bool) : Type 0 where
  pub count : length t ≡ n
  pub low : AreLow t
  pub each : (a : ℕ) → a < n → but a ≡ false → slice_index t a ≡ value t a

-- each has the value that the rule gives, and those that are not told the one that it had
pub record IsResettled (n : ℕ) (value : List ℕ → ℕ → ℕ) (old new changed : List ℕ) : Type 0 where
  pub settled : IsSettled n value new (λ a. false)
  pub kept : (a : ℕ) → is_among changed a ≡ false → slice_index new a ≡ slice_index old a
  pub within : All (λ a. a < n) changed
