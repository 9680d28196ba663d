use Rattle.std.proofs.Common.{◌≡◌, ◌++◌, drop}
use Rattle.node_rows.specs.Evaluation.{both_delays}
use Rattle.node_rows.proofs.delays.both_delays.Given as goal

abbrev pub invariant-loop-at : goal.invariant-loop-at
invariant-loop-at l = l.delays ++ both_delays (drop l.at l.early) (drop l.at l.late) ≡ both_delays l.early l.late
