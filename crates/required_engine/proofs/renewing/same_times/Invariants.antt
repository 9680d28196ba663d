use Rattle.std.proofs.Common.{◌≡◌, drop}
use Rattle.std.specs.Cmp.Lexicographic.{pointwise}
use Rattle.timing_rules.specs.Cones.{same_time}
use Rattle.required_engine.proofs.renewing.same_times.Given as goal

abbrev pub invariant-loop-time : goal.invariant-loop-time
invariant-loop-time l = pointwise same_time (drop l.time-index l.a) l.rest ≡ pointwise same_time l.a l.initial.rest
