use Rattle.std.proofs.Common.{◌≡◌, filter, take}
use Rattle.pin_graph.specs.Networks.{is_comb_arc}
use Rattle.pin_graph.proofs.pulls.comb_arcs.Given as goal

abbrev pub invariant-loop-arc : goal.invariant-loop-arc
invariant-loop-arc l = l.found ≡ filter is_comb_arc (take l.arc-index l.arcs)
