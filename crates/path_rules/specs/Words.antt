-- Words that name pins by an instance, a mark and a pin.

use Rattle.std.specs.Prelude.{◌≡◌, ℕ, ◌<◌, ◌≤◌, true, false, List, length, slice_index}
use Rattle.timing_defs.specs.Names.{is_split}

-- the place of the last mark of a word, or its length where it has none
pub record IsLastSplit (word : List ℕ) (place : ℕ) : Type 0 where
  pub within : place ≤ length word
  pub mark : place < length word → is_split (slice_index word place) ≡ true
  pub after : (k : ℕ) → place < k → k < length word → is_split (slice_index word k) ≡ false
  pub whole : place ≡ length word → (k : ℕ) → k < length word → is_split (slice_index word k) ≡ false
