-- Endpoints of an edited store, and those that keep their slacks.

use Rattle.std.specs.Prelude.{ℕ, ◌≡◌, true, false, if◌then◌else◌, List, Option, Some, None}
use Rattle.netlist_store.specs.Numbering.{Stored, is_number}
use Rattle.edit_reach.specs.Reach.{is_in}
use Rattle.affected_cone.specs.declared.ends.EndSlacks.{EndSlacks}
use Rattle.affected_cone.specs.Analysed.{is_end, IsEnd}

-- what a pin that is not in a list keeps from a base to an edited store: whether it is an endpoint, and its slacks; an
-- endpoint of the base that is gone is in the list
pub record AreKeptEnds (base edited : Stored) (dirty : List ℕ) : Type 0 where
  pub there : (pin : ℕ) → is_end base pin ≡ true → is_in dirty pin ≡ false → is_number edited.pins pin ≡ true
  pub end : (pin : ℕ) → is_number edited.pins pin ≡ true → is_in dirty pin ≡ false → is_end edited pin ≡ is_end base pin
  pub slacks : (pin : ℕ) (end : EndSlacks) → is_end edited pin ≡ true → is_in dirty pin ≡ false → IsEnd base pin end → IsEnd edited pin end

-- an endpoint that keeps its slacks, and the number of one that is searched again
abbrev pub kept_end : List ℕ → EndSlacks → Option EndSlacks
kept_end dirty end = (if is_in dirty end.pin then None else Some end)

abbrev pub end_number : Stored → ℕ → Option ℕ
end_number s pin = (if is_end s pin then Some pin else None)

abbrev pub pin_of : EndSlacks → ℕ
pin_of end = end.pin
