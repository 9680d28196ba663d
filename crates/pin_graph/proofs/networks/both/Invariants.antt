use Rattle.pin_graph.proofs.StartLaws.{AreBoth}
use Rattle.pin_graph.proofs.networks.both.Given as goal

abbrev pub invariant-loop-at : goal.invariant-loop-at
invariant-loop-at l = AreBoth l.a l.b l.marks l.at
