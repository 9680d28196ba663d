-- The places of a numbering: a name that is in use, a number that waits, or a gap.

use Rattle.std.specs.Prelude.{ℕ, Bool, true, false, List, Option, Some, None, slice_get, option_and_then}
use Rattle.netlist_store.specs.declared.numberings.Slot.{Slot}
use Rattle.netlist_store.specs.declared.numberings.Slot.TheVariants.{Named, Waiting, Gap}

abbrev pub slot_name : Slot → Option (List ℕ)
slot_name (Named name) = Some name
slot_name Waiting = None
slot_name (Gap next) = None

abbrev pub slot_name_at : List Slot → ℕ → Option (List ℕ)
slot_name_at slots n = option_and_then slot_name (slice_get slots n)

-- a number that waits until it may be used again
abbrev pub is_waiting : Slot → Bool
is_waiting Waiting = true
is_waiting _ = false
