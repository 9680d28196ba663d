use Rattle.std.proofs.Common.{◌≡◌, take}
use Rattle.pin_graph.proofs.relinking.same_arcs.Given as goal

abbrev pub invariant-loop-at : goal.invariant-loop-at
invariant-loop-at l = take l.at l.a ≡ take l.at l.b
