use Rattle.std.proofs.Common.{take}
use Rattle.pin_graph.proofs.TreeLaws.{AreNoted}
use Rattle.pin_graph.proofs.trees.pins_apart.Given as goal

abbrev pub invariant-loop-arc : goal.invariant-loop-arc
invariant-loop-arc l = AreNoted l.network (take l.arc-index l.arcs) l.entries.items l.apart
