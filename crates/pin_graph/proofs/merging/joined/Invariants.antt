use Rattle.std.proofs.Common.{take}
use Rattle.pin_graph.specs.NodeArcs.{AreJoined, AreNoted}
use Rattle.pin_graph.proofs.merging.joined.Given as goal

abbrev pub invariant-loop-arc : goal.invariant-loop-arc
invariant-loop-arc l = record {
  joined : AreJoined (take l.arc-index l.fan) l.arcs.items;
  noted : AreNoted l.arcs.items l.places;
}
