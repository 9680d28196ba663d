use Rattle.std.proofs.Common.{◌≡◌, drop}
use Rattle.timing_defs.specs.RowTimes.{time_on}
use Rattle.node_rows.proofs.merges.time_on.Given as goal

abbrev pub invariant-loop-time : goal.invariant-loop-time
invariant-loop-time l = time_on (drop l.time-index l.times) (l.clock, l.tran) ≡ time_on l.times (l.clock, l.tran)
