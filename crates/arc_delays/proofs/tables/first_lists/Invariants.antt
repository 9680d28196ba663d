use Rattle.std.proofs.Common.{◌≡◌, take}
use Rattle.arc_delays.proofs.tables.first_lists.Given as goal

abbrev pub invariant-loop-at : goal.invariant-loop-at
invariant-loop-at l = l.first ≡ take l.at l.table
