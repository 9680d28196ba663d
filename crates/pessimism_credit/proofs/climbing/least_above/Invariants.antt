use Rattle.std.proofs.Common.{◌≡◌, pos, ◌≤ℤ◌}
use Rattle.std.specs.Int.{int_min}
use Rattle.pessimism_credit.specs.Credit.{least_over, least_credit_of}
use Rattle.pessimism_credit.proofs.Climbs.{above, room}
use Rattle.pessimism_credit.proofs.climbing.least_above.Given as goal

-- the least so far and what is above are the least of all; it is at most 0
abbrev pub invariant-loop-at : goal.invariant-loop-at
invariant-loop-at l = (int_min l.least.0 (least_over l.rows (above l.rows l.at)) ≡ least_credit_of l.fn.rows l.fn.n) × (l.least.0 ≤ℤ pos 0)

abbrev pub decreases-loop-at : goal.decreases-loop-at
decreases-loop-at l = room l.at
