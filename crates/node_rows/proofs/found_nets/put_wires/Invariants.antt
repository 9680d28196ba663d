use Rattle.std.proofs.Common.{◌≡◌, drop, length}
use Rattle.node_rows.specs.FoundNets.{with_wires}
use Rattle.node_rows.proofs.found_nets.put_wires.Given as goal

abbrev pub invariant-loop-to : goal.invariant-loop-to
invariant-loop-to l = (with_wires l.table (drop l.to-index l.wires) ≡ with_wires l.initial.table l.wires) × (length l.table ≡ length l.initial.table)
