use Rattle.std.proofs.Common.{◌≡◌, map, take}
use Rattle.pin_graph.specs.Graphs.{to_of}
use Rattle.pin_graph.proofs.node_rules.heads.Given as goal

abbrev pub invariant-loop-arc : goal.invariant-loop-arc
invariant-loop-arc l = l.nodes ≡ map to_of (take l.arc-index l.arcs)
