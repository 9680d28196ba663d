use Rattle.pin_graph.specs.PinValues.{IsLonger}
use Rattle.pin_graph.proofs.updates.lengthened.Given as goal

abbrev pub invariant-loop-at : goal.invariant-loop-at
invariant-loop-at l = IsLonger l.at l.table l.longer
