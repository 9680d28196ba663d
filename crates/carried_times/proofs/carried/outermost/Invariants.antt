use Rattle.std.proofs.Common.{◌≡◌, Some, drop}
use Rattle.timing_defs.specs.declared.edge_times.EdgeTime.{EdgeTime}
use Rattle.timing_rules.specs.Rows.{outermost}
use Rattle.carried_times.specs.Times.{outermost_time}
use Rattle.carried_times.proofs.carried.outermost.Given as goal

abbrev pub invariant-loop-time : goal.invariant-loop-time
invariant-loop-time l = outermost l.split (λ (t : EdgeTime). Some t.time.0) l.best (drop l.time-index l.times) ≡ outermost_time l.split l.times
