use Rattle.std.proofs.Common.{◌≡◌, ℕ, ◌<◌, get_or, Some, false}
use Rattle.std.specs.Prelude.{option_map}
use Rattle.timing_defs.specs.Netlist.{is_driver}
use Rattle.netlist_store.specs.Numbering.{pin_numbered}
use Rattle.store_pins.proofs.pins.net_driver.Given as goal

abbrev pub invariant-loop-pin : goal.invariant-loop-pin
invariant-loop-pin l = (k : ℕ) → k < l.pin-index → option_map is_driver (pin_numbered l.store (get_or l.pin-items k 0)) ≡ Some false
