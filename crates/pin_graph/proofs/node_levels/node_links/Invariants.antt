use Rattle.std.proofs.Common.{◌≡◌, map, take}
use Rattle.pin_graph.specs.NodeArcs.{node_link}
use Rattle.pin_graph.proofs.node_levels.node_links.Given as goal

abbrev pub invariant-loop-arc : goal.invariant-loop-arc
invariant-loop-arc l = l.links ≡ map node_link (take l.arc-index l.arcs)
