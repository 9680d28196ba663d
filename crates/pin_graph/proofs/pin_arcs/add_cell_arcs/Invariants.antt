use Rattle.std.proofs.Common.{◌≡◌, ◌++◌, take}
use Rattle.std.specs.List.{filter_map}
use Rattle.pin_graph.specs.Joins.{numbered_arc}
use Rattle.pin_graph.proofs.pin_arcs.add_cell_arcs.Given as goal

abbrev pub invariant-loop-arc : goal.invariant-loop-arc
invariant-loop-arc l = l.arcs ≡ l.initial.arcs ++ filter_map (numbered_arc l.store l.inst) (take l.arc-index l.arc-items)
