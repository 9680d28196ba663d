use Rattle.std.proofs.Common.{sym, subst}
use Rattle.std.specs.Prelude.{IsSome}
use Rattle.worst_walks.specs.Tables.{row_in}
use Rattle.worst_walks.specs.Searches.{IsFalling}
use Rattle.ranked_walks.proofs.Leading.{open_falling, open_row}
use Rattle.ranked_walks.proofs.walking.walk_of.Goals as goal

pub nodes_from-requires-clause-falling : goal.nodes_from-requires-clause-falling
nodes_from-requires-clause-falling g c =
    subst (λ rows. IsFalling rows c.end_at-end.result.now.node) (sym c.rows_of.ensures)
    (open_falling (g.O.WalkOrder.rank c.args.order.now) (g.O.WalkOrder.before c.args.order.now) c.args.cone.now c.args.tables.now c.args.given.now c.requires.cone c.requires.tables c.args.branch.now c.requires.open c.end_at-end.result.now c.end_at-end.ensures.there)

pub nodes_from-requires-clause-node : goal.nodes_from-requires-clause-node
nodes_from-requires-clause-node g c =
    subst (λ rows. IsSome (row_in rows c.args.branch.now.next)) (sym c.rows_of.ensures)
    (open_row (g.O.WalkOrder.rank c.args.order.now) (g.O.WalkOrder.before c.args.order.now) c.args.cone.now c.args.tables.now c.args.given.now c.requires.cone c.requires.tables c.args.branch.now c.requires.open)
