use Rattle.std.proofs.Common.{◌≡◌}
use Rattle.std.specs.List.{filter_map, range_with_len}
use Rattle.pin_graph.specs.Seeds.{turned_at}
use Rattle.pin_graph.proofs.seeding.turned_nodes.Given as goal

abbrev pub invariant-loop-node : goal.invariant-loop-node
invariant-loop-node l = l.nodes ≡ filter_map (turned_at l.base l.graph) (range_with_len 0 l.node)
