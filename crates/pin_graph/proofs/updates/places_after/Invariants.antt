use Rattle.std.proofs.Common.{None}
use Rattle.pin_graph.proofs.AfterLaws.{ReadsAs}
use Rattle.pin_graph.proofs.updates.places_after.Given as goal

abbrev pub invariant-loop-at : goal.invariant-loop-at
invariant-loop-at l = ReadsAs None l.at l.places l.longer
