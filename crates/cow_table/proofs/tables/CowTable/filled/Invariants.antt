use Rattle.std.proofs.Common.{◌≡◌, replicate}
use Rattle.cow_table.proofs.tables.CowTable.filled.Given as goal

abbrev pub invariant-loop-at : goal.invariant-loop-at
invariant-loop-at g l = l.table ≡ replicate l.at l.item
