use Rattle.std.proofs.Common.{sym, subst}
use Rattle.worst_walks.specs.Tables.{IsTable}
use Rattle.ranked_walks.proofs.EndTables.{ends_more}
use Rattle.ranked_walks.proofs.starts.end_tables.Goals as goal

pub loop-place-preserved : goal.loop-place-preserved
loop-place-preserved g c =
    ends_more (g.O.WalkOrder.rank c.args.order.now) c.args.cone.now c.loop-place.place c.loop-place.tables c.push.new.self c.end_at-end.result.now c.from_vec.result
    c.loop-place.invariant c.end_at-end.ensures.there
    (subst (IsTable (g.O.WalkOrder.rank c.args.order.now) c.args.cone.now c.end_at-end.result.now.node) (sym c.from_vec.ensures) c.in_ok-rows.ensures) c.in_ok-push.ensures.ok
