use Rattle.std.proofs.Common.{◌≡◌, drop}
use Rattle.timing_defs.specs.RowTimes.{time_on, edge_of}
use Rattle.timing_defs.proofs.edge_times.EdgeTimes.on.Given as goal

abbrev pub invariant-loop-time : goal.invariant-loop-time
invariant-loop-time l = time_on (drop l.time-index l.time-items) (edge_of l.edge) ≡ time_on l.time-items (edge_of l.edge)
