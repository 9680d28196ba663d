use Rattle.std.proofs.Common.{take}
use Rattle.pin_graph.specs.NodeArcs.{AreJoined}
use Rattle.pin_graph.proofs.relinking.joined_few.Given as goal

abbrev pub invariant-loop-arc : goal.invariant-loop-arc
invariant-loop-arc l = AreJoined (take l.arc-index l.raw) l.arcs.items
