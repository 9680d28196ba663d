use Rattle.node_rows.proofs.StepLaws.{AreGathered}
use Rattle.node_rows.proofs.merges.all_values.Given as goal

abbrev pub invariant-loop-node : goal.invariant-loop-node
invariant-loop-node l = AreGathered l.setting.store.now l.split l.to l.before l.values l.node-index
