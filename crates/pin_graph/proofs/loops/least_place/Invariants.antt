use Rattle.pin_graph.proofs.LoopLaws.{IsBest}
use Rattle.pin_graph.proofs.loops.least_place.Given as goal

abbrev pub invariant-loop-at : goal.invariant-loop-at
invariant-loop-at l = IsBest l.names l.place l.at
