use Rattle.std.proofs.Common.{◌≡◌, ◌++◌, take}
use Rattle.std.specs.List.{filter_map}
use Rattle.pin_graph.specs.Relinking.{standing_into}
use Rattle.pin_graph.proofs.relinking.add_standing.Given as goal

abbrev pub invariant-loop-arc : goal.invariant-loop-arc
invariant-loop-arc l = l.arcs ≡ l.fn.arcs ++ filter_map (standing_into l.network l.node) (take l.arc-index l.library)
