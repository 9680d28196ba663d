use Rattle.std.proofs.Common.{◌≡◌, ◌+◌, ◌-◌, subst, arith}
use Rattle.rc_tree.specs.Moments.{IsPassingUp}
use Rattle.rc_tree.proofs.Passes.{parent_room, gave}
use Rattle.rc_tree.proofs.sums.subtotals.Goals as goal

pub give-requires-clause-room : goal.give-requires-clause-room
give-requires-clause-room c =
    let next : c.loop-place.place ≡ c.loop-place.place - 1 + 1 = omega (arith, c.loop-place-test.true) in
    parent_room c.args.rows.now c.args.weights.items c.loop-place.totals.items (c.loop-place.place - 1) c.row_of.result c.requires.rising
    (subst (IsPassingUp c.args.rows.now c.args.weights.items c.loop-place.totals.items) next c.loop-place.invariant) c.requires.bound c.row_of.ensures

pub loop-place-preserved : goal.loop-place-preserved
loop-place-preserved c =
    let next : c.loop-place.place ≡ c.loop-place.place - 1 + 1 = omega (arith, c.loop-place-test.true) in
    gave c.args.rows.now c.args.weights.items c.loop-place.totals.items c.give.new.totals.items (c.loop-place.place - 1) c.row_of.result c.requires.rising
    (subst (IsPassingUp c.args.rows.now c.args.weights.items c.loop-place.totals.items) next c.loop-place.invariant) c.row_of.ensures c.give.ensures
