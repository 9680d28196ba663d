use Rattle.std.proofs.Common.{◌≡◌}
use Rattle.std.specs.List.{flat_map, range_with_len}
use Rattle.pin_graph.specs.NodeArcs.{net_arcs_into}
use Rattle.pin_graph.proofs.node_arcs.net_node_arcs.Given as goal

abbrev pub invariant-loop-pin : goal.invariant-loop-pin
invariant-loop-pin l = l.arcs ≡ flat_map (net_arcs_into l.store l.network) (range_with_len 0 l.pin)
