use Rattle.std.proofs.Common.{◌≡◌, drop, length}
use Rattle.node_rows.specs.RenewedNets.{without_wires}
use Rattle.node_rows.proofs.wire_updates.clear_wires.Given as goal

abbrev pub invariant-loop-pin : goal.invariant-loop-pin
invariant-loop-pin l = (without_wires l.table (drop l.pin-index l.pins) ≡ without_wires l.initial.table l.pins) × (length l.table ≡ length l.initial.table)
