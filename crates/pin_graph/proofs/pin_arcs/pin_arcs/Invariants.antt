use Rattle.std.proofs.Common.{◌≡◌}
use Rattle.std.specs.List.{flat_map, range_with_len}
use Rattle.pin_graph.specs.Joins.{arcs_of}
use Rattle.pin_graph.proofs.pin_arcs.pin_arcs.Given as goal

abbrev pub invariant-loop-inst : goal.invariant-loop-inst
invariant-loop-inst l = l.arcs ≡ flat_map (arcs_of l.store) (range_with_len 0 l.inst)
