use Rattle.std.proofs.Common.{◌≡◌}
use Rattle.std.specs.List.{filter_map, range_with_len}
use Rattle.pin_graph.specs.Placing.{at_level}
use Rattle.pin_graph.proofs.places.leveled.Given as goal

abbrev pub invariant-loop-node : goal.invariant-loop-node
invariant-loop-node l = l.nodes ≡ filter_map (at_level l.marks l.levels) (range_with_len 0 l.node)
