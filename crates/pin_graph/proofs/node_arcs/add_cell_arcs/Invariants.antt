use Rattle.std.proofs.Common.{◌≡◌, ◌++◌, take}
use Rattle.std.specs.List.{filter_map}
use Rattle.pin_graph.specs.NodeArcs.{standing_arc}
use Rattle.pin_graph.proofs.node_arcs.add_cell_arcs.Given as goal

abbrev pub invariant-loop-arc : goal.invariant-loop-arc
invariant-loop-arc l = l.arcs ≡ l.fn.arcs ++ filter_map (standing_arc l.network) (take l.arc-index l.library)
