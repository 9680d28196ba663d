use Rattle.std.proofs.Common.{◌≡◌, drop, None}
use Rattle.node_rows.specs.Evaluation.{merged_over}
use Rattle.node_rows.proofs.merges.merged_arrival.Given as goal

abbrev pub invariant-loop-at : goal.invariant-loop-at
invariant-loop-at l =
    merged_over l.split (l.clock, l.tran) l.best (drop l.at l.before) (drop l.at l.values) ≡ merged_over l.split (l.clock, l.tran) None l.before l.values
