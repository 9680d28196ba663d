use Rattle.std.proofs.Common.{false}
use Rattle.pin_graph.proofs.AfterLaws.{ReadsAs}
use Rattle.pin_graph.proofs.updates.network_after.Given as goal

abbrev pub invariant-loop-at : goal.invariant-loop-at
invariant-loop-at l = ReadsAs false l.at l.network l.marks
