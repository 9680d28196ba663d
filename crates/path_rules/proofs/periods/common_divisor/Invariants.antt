use Rattle.path_rules.proofs.Divisors.{IsEuclid}
use Rattle.path_rules.proofs.periods.common_divisor.Given as goal

abbrev pub invariant-loop-y : goal.invariant-loop-y
invariant-loop-y l = IsEuclid l.fn.a l.fn.b l.x l.y

abbrev pub decreases-loop-y : goal.decreases-loop-y
decreases-loop-y l = l.y
