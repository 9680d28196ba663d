use Rattle.std.proofs.Common.{◌≡◌, take}
use Rattle.node_rows.proofs.wire_updates.first_items.Given as goal

abbrev pub invariant-loop-at : goal.invariant-loop-at
invariant-loop-at g l = l.first ≡ take l.at l.table
