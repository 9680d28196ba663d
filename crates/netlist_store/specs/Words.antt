-- The last colon of a pin word, which parts the instance from the pin.

use Rattle.std.specs.Prelude.{ℕ, ◌+◌, ◌≡◌, ◌<◌, true, List, take, drop, length}
use Rattle.timing_defs.specs.Edits.{has_colon, before_last, after_last}

-- a word's last colon stands at this place: the instance is before it, the pin after it
pub record IsLastColon (word : List ℕ) (place : ℕ) : Type 0 where
  pub colon : has_colon word ≡ true
  pub within : place < length word
  pub before : take place word ≡ before_last word
  pub after : drop (place + 1) word ≡ after_last word
