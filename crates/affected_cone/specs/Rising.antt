-- Endpoints in the order of their numbers.

use Rattle.std.specs.Prelude.{ℕ, ◌<◌, ◌≤◌, List, length, slice_index_or}
use Rattle.affected_cone.specs.declared.ends.EndSlacks.{EndSlacks}

abbrev pub number_at : List EndSlacks → ℕ → EndSlacks → ℕ
number_at ends k other = (slice_index_or ends k other).pin

-- no number is above a later one
pub record AreRising (ends : List EndSlacks) : Type 0 where
  pub rise : (i j : ℕ) (other : EndSlacks) → i ≤ j → j < length ends → number_at ends i other ≤ number_at ends j other

-- the numbers before the lower bound are below a number, and those from the upper bound on are not
pub record AreBounds (ends : List EndSlacks) (pin low high : ℕ) : Type 0 where
  pub order : low ≤ high
  pub within : high ≤ length ends
  pub before : (k : ℕ) (other : EndSlacks) → k < low → number_at ends k other < pin
  pub from : (k : ℕ) (other : EndSlacks) → high ≤ k → k < length ends → pin ≤ number_at ends k other
