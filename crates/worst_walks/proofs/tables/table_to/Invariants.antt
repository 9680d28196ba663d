use Rattle.worst_walks.specs.Tables.{IsFilled}
use Rattle.worst_walks.proofs.tables.table_to.Given as goal

abbrev pub invariant-loop-node : goal.invariant-loop-node
invariant-loop-node g l = IsFilled (g.O.WalkOrder.rank l.order) l.cone l.end l.node l.rows.items
