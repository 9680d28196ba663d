use Rattle.std.proofs.Common.{◌≡◌, ◌-◌, ◌≤◌, ◌++◌, replicate, length}
use Rattle.node_rows.proofs.wire_updates.lengthen.Given as goal

abbrev pub invariant-loop-at : goal.invariant-loop-at
invariant-loop-at g l = (l.table ≡ l.fn.table ++ replicate (l.at - length l.fn.table) l.more) × (length l.fn.table ≤ l.at)
