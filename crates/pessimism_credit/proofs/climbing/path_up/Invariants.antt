use Rattle.std.proofs.Common.{◌≡◌, ◌++◌, reverse}
use Rattle.pessimism_credit.specs.Credit.{root_path}
use Rattle.pessimism_credit.proofs.Climbs.{above, room}
use Rattle.pessimism_credit.proofs.climbing.path_up.Given as goal

-- what is above and what was passed are the whole path
abbrev pub invariant-loop-at : goal.invariant-loop-at
invariant-loop-at l = above l.rows l.at ++ reverse l.path ≡ root_path l.fn.rows l.fn.n

abbrev pub decreases-loop-at : goal.decreases-loop-at
decreases-loop-at l = room l.at
