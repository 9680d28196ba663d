use Rattle.std.proofs.Common.{sym, subst}
use Rattle.std.specs.Prelude.{All}
use Rattle.worst_walks.specs.Walks.{most_nodes}
use Rattle.worst_walks.specs.Tables.{row_in, IsBounded}
use Rattle.ranked_walks.specs.Outs.{IsOut}
use Rattle.ranked_walks.proofs.Fitting.{rows_bounded, outs_known}
use Rattle.ranked_walks.proofs.branches.branch_at.Goals as goal

pub best_free-entry-requires-clause-arcs : goal.best_free-entry-requires-clause-arcs
best_free-entry-requires-clause-arcs g c =
    subst (All (IsOut (g.O.WalkOrder.count c.args.order.now))) (sym c.outs_of.ensures)
    (outs_known (g.O.WalkOrder.rank c.args.order.now) c.args.cone.now c.args.tables.now (g.O.WalkOrder.count c.args.order.now) c.args.stem.node c.requires.cone c.requires.tables c.requires.node c.requires.order)

pub best_free-entry-requires-clause-bounded : goal.best_free-entry-requires-clause-bounded
best_free-entry-requires-clause-bounded g c =
    λ n. subst (λ rows. IsBounded most_nodes (row_in rows n)) (sym c.rows_of-rows.ensures)
    (rows_bounded (g.O.WalkOrder.rank c.args.order.now) c.args.cone.now c.args.tables.now c.args.stem.end n c.requires.cone c.requires.tables c.requires.end)
