use Rattle.std.proofs.Common.{◌≡◌, ◌-◌, ◌≤◌, ◌++◌, [], replicate, length}
use Rattle.arc_delays.proofs.tables.lengthen.Given as goal

abbrev pub invariant-loop-at : goal.invariant-loop-at
invariant-loop-at l = (l.table ≡ l.fn.table ++ replicate (l.at - length l.fn.table) []) × (length l.fn.table ≤ l.at)
