use Rattle.std.proofs.Common.{◌+◌, sym, subst}
use Rattle.ranked_walks.specs.Searching.{IsFront, IsTold}
use Rattle.ranked_walks.proofs.Fronts.{front_first, front_stays, front_moves}
use Rattle.ranked_walks.proofs.walking.first_open.Goals.{then-told, else-told}
use Rattle.ranked_walks.proofs.walking.first_open.Goals as goal

pub loop-place-init : goal.loop-place-init
loop-place-init g c =
    front_first (g.O.WalkOrder.rank c.args.order.now) (g.O.WalkOrder.before c.args.order.now) c.args.cone.now c.args.tables.now c.args.given.now c.requires.cone c.requires.tables c.args.branches.now c.requires.each c.requires.some

pub loop-place-preserved : goal.loop-place-preserved
loop-place-preserved g c =
    let rank = g.O.WalkOrder.rank c.args.order.now in
    let before = g.O.WalkOrder.before c.args.order.now in
    elim c.if-told.branch [
      | then-told w ↦
          subst (IsFront rank before c.args.cone.now c.args.tables.now c.args.given.now c.args.branches.now (c.loop-place.place + 1)) (sym w.at-is)
          (front_moves rank before c.args.cone.now c.args.tables.now c.args.given.now c.requires.cone c.requires.tables c.args.branches.now c.requires.each c.loop-place.place c.loop-place.at
          c.nth-next.result.now c.nth-first.result.now c.loop-place-test.true c.nth-next.ensures c.nth-first.ensures c.loop-place.invariant
          (subst (IsTold rank before c.args.cone.now c.args.tables.now c.args.given.now c.nth-next.result.now c.nth-first.result.now) w.if-told.true c.in_ok-told.ensures))
      | else-told w ↦
          subst (IsFront rank before c.args.cone.now c.args.tables.now c.args.given.now c.args.branches.now (c.loop-place.place + 1)) (sym w.at-is)
          (front_stays rank before c.args.cone.now c.args.tables.now c.args.given.now c.requires.cone c.requires.tables c.args.branches.now c.requires.each c.loop-place.place c.loop-place.at
          c.nth-next.result.now c.nth-first.result.now c.nth-next.ensures c.nth-first.ensures c.loop-place.invariant
          (subst (IsTold rank before c.args.cone.now c.args.tables.now c.args.given.now c.nth-next.result.now c.nth-first.result.now) w.if-told.false c.in_ok-told.ensures))
    ]
