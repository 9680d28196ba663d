use Rattle.std.proofs.Common.{◌≡◌, rules, sym, ap, subst, FitsSigned, w64, to_z, of_z}
use Rattle.std.specs.Prelude.{int_lt}
use Rattle.std.proofs.lemmas.Int.{to_z-of_z}
use Rattle.std.proofs.lemmas.Result.{IfOk-weaker}
use Rattle.ranked_walks.specs.Searching.{IsTold}
use Rattle.ranked_walks.proofs.Leading.{open_known, told_by_slack, told_by_walks}
use Rattle.ranked_walks.proofs.walking.precedes.Goals as goal

pub returns-then-one-other : goal.returns-then-one-other
returns-then-one-other g c =
    let rank = g.O.WalkOrder.rank c.args.order.now in
    let before = g.O.WalkOrder.before c.args.order.now in
    let one : FitsSigned w64 c.args.one.now.slack = search rules in
    let other : FitsSigned w64 c.args.other.now.slack = search rules in
    let one_is : to_z w64 (of_z w64 c.args.one.now.slack) ≡ c.args.one.now.slack = to_z-of_z w64 c.args.one.now.slack one in
    let other_is : to_z w64 (of_z w64 c.args.other.now.slack) ≡ c.args.other.now.slack = to_z-of_z w64 c.args.other.now.slack other in
    subst (λ x. IsTold rank before c.args.cone.now c.args.tables.now c.args.given.now c.args.one.now c.args.other.now (int_lt x (to_z w64 (of_z w64 c.args.other.now.slack)))) (sym one_is)
    (subst (λ y. IsTold rank before c.args.cone.now c.args.tables.now c.args.given.now c.args.one.now c.args.other.now (int_lt c.args.one.now.slack y)) (sym other_is)
    (told_by_slack rank before c.args.cone.now c.args.tables.now c.args.given.now c.requires.cone c.requires.tables c.args.one.now c.args.other.now c.requires.one c.requires.other
    (λ e. c.if-one-other.true (ap (of_z w64) e))))

pub comes_before-requires-clause-one : goal.comes_before-requires-clause-one
comes_before-requires-clause-one g c =
    open_known (g.O.WalkOrder.rank c.args.order.now) (g.O.WalkOrder.before c.args.order.now) c.args.cone.now c.args.tables.now c.args.given.now c.requires.cone c.requires.tables c.args.one.now c.requires.one
    (g.O.WalkOrder.count c.args.order.now) c.requires.order c.in_ok-left.left c.in_ok-left.ensures

pub comes_before-requires-clause-other : goal.comes_before-requires-clause-other
comes_before-requires-clause-other g c =
    open_known (g.O.WalkOrder.rank c.args.order.now) (g.O.WalkOrder.before c.args.order.now) c.args.cone.now c.args.tables.now c.args.given.now c.requires.cone c.requires.tables c.args.other.now c.requires.other
    (g.O.WalkOrder.count c.args.order.now) c.requires.order c.in_ok-right.right c.in_ok-right.ensures

pub returns : goal.returns
returns g c =
    IfOk-weaker c.comes_before.result _ _
    (λ told e. told_by_walks (g.O.WalkOrder.rank c.args.order.now) (g.O.WalkOrder.before c.args.order.now) c.args.cone.now c.args.tables.now c.args.given.now c.requires.cone c.requires.tables c.args.one.now c.args.other.now c.requires.one c.requires.other
    c.in_ok-left.left c.in_ok-right.right c.in_ok-left.ensures c.in_ok-right.ensures told e) c.comes_before.ensures
