use Rattle.std.proofs.Common.{take}
use Rattle.node_rows.specs.FoundNets.{AreWiresTo}
use Rattle.node_rows.proofs.net_trees.wires_to.Given as goal

abbrev pub invariant-loop-pin : goal.invariant-loop-pin
invariant-loop-pin l = AreWiresTo l.store l.trees (take l.pin-index l.pins) l.wires
