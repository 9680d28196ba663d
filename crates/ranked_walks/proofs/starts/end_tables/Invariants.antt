use Rattle.ranked_walks.specs.Outs.{AreEndTables}
use Rattle.ranked_walks.proofs.starts.end_tables.Given as goal

abbrev pub invariant-loop-place : goal.invariant-loop-place
invariant-loop-place g l = AreEndTables (g.O.WalkOrder.rank l.order) l.cone l.place l.tables
