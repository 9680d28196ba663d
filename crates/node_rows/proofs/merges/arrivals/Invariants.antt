use Rattle.node_rows.specs.Evaluation.{arrival_over}
use Rattle.node_rows.proofs.StepLaws.{AreTimed}
use Rattle.node_rows.proofs.merges.arrivals.Given as goal

abbrev pub invariant-loop-at : goal.invariant-loop-at
invariant-loop-at l = AreTimed (arrival_over l.setting.store.now l.split l.to l.before l.values) l.setting.store.now.design.constraints.clocks l.times l.at
