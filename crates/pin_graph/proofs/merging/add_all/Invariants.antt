use Rattle.std.proofs.Common.{◌≡◌, ◌++◌, take}
use Rattle.pin_graph.proofs.merging.add_all.Given as goal

abbrev pub invariant-loop-arc : goal.invariant-loop-arc
invariant-loop-arc l = l.all ≡ l.fn.all ++ take l.arc-index l.arcs
