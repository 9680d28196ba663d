use Rattle.std.proofs.Common.{◌≡◌, drop, None}
use Rattle.worst_walks.specs.Tables.{least_from}
use Rattle.worst_walks.proofs.slacks.least_offer.Given as goal

abbrev pub invariant-loop-launch : goal.invariant-loop-launch
invariant-loop-launch l = least_from l.rows l.least (drop l.launch-index l.launch-items) ≡ least_from l.rows None l.end.launches
