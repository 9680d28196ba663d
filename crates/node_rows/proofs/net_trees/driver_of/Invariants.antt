use Rattle.std.proofs.Common.{◌≡◌, drop}
use Rattle.std.specs.Prelude.{find}
use Rattle.store_pins.specs.Drivers.{drives_at}
use Rattle.node_rows.proofs.net_trees.driver_of.Given as goal

abbrev pub invariant-loop-pin : goal.invariant-loop-pin
invariant-loop-pin l = find (drives_at l.store) (drop l.pin-index l.pins) ≡ find (drives_at l.store) l.pins
