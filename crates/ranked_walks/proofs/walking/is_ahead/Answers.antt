use Rattle.std.proofs.Common.{sym, ◌∙◌}
use Rattle.ranked_walks.proofs.Leading.{told_behind}
use Rattle.ranked_walks.proofs.walking.is_ahead.Goals as goal

pub returns-then-is_behind : goal.returns-then-is_behind
returns-then-is_behind g c =
    told_behind (g.O.WalkOrder.rank c.args.order.now) (g.O.WalkOrder.before c.args.order.now) c.args.cone.now c.args.tables.now c.args.given.now c.requires.cone c.requires.tables
    c.args.one.now c.args.other.now c.requires.one c.requires.other (sym c.is_behind.ensures ∙ c.if-is_behind.true)
