use Rattle.std.proofs.Common.{◌≡◌, ◌+◌}
use Rattle.pessimism_credit.proofs.Climbs.{shared}
use Rattle.pessimism_credit.proofs.climbing.last_shared.Given as goal

-- the two places share what the first two do
abbrev pub invariant-loop-left : goal.invariant-loop-left
invariant-loop-left l = shared l.rows l.left l.right ≡ shared l.fn.rows l.fn.a l.fn.b

abbrev pub decreases-loop-left : goal.decreases-loop-left
decreases-loop-left l = l.left + l.right
