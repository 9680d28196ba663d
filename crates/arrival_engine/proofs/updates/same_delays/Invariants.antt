use Rattle.std.proofs.Common.{◌≡◌, drop}
use Rattle.std.specs.Cmp.Lexicographic.{pointwise}
use Rattle.arrival_engine.specs.Updated.{same_delay}
use Rattle.arrival_engine.proofs.updates.same_delays.Given as goal

abbrev pub invariant-loop-delay : goal.invariant-loop-delay
invariant-loop-delay l = pointwise same_delay (drop l.delay-index l.a) l.rest ≡ pointwise same_delay l.a l.initial.rest
