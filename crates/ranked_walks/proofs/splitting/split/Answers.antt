use Rattle.std.proofs.Common.{◌+◌, ◌<◌, ◌≤◌, ◌++◌, suc, length, sym, ap, subst, ◌∙◌, arith}
use Rattle.std.proofs.Math.Numerals.{add-one}
use Rattle.ranked_walks.specs.Searching.{made_list, IsSplitting}
use Rattle.ranked_walks.proofs.Again.{again_step}
use Rattle.ranked_walks.proofs.Fits.{fit_at, again_fit}
use Rattle.ranked_walks.proofs.Parting.{part_step, split_all}
use Rattle.ranked_walks.proofs.splitting.split.Goals as goal

pub again_of-requires-clause-fit : goal.again_of-requires-clause-fit
again_of-requires-clause-fit g c =
    again_fit (g.O.WalkOrder.rank c.args.order.now) (g.O.WalkOrder.before c.args.order.now) c.args.cone.now c.args.tables.now c.args.given.now c.args.walk.now c.args.branches.now.items c.args.branch
    c.requires.cone c.requires.order.ranked c.requires.tables c.requires.taken

pub loop-last-init : goal.loop-last-init
loop-last-init g c =
    subst (λ bs. IsSplitting (g.O.WalkOrder.rank c.args.order.now) (g.O.WalkOrder.before c.args.order.now) c.args.cone.now c.args.tables.now c.args.given.now c.args.walk.now bs c.args.branch.kept)
    (sym (c.in_ok-add.ensures ∙ ap (λ m. c.args.branches.now.items ++ made_list m) c.in_ok-made.ensures))
    (again_step (g.O.WalkOrder.rank c.args.order.now) (g.O.WalkOrder.before c.args.order.now) c.args.cone.now c.args.tables.now c.args.given.now c.args.walk.now c.args.branches.now.items c.args.branch
    c.requires.cone c.requires.order.ranked c.requires.tables c.requires.taken)

pub part_of-requires-clause-fit : goal.part_of-requires-clause-fit
part_of-requires-clause-fit g c =
    let test = c.loop-last-test.true in
    let len = c.len-last-end.ensures in
    fit_at (g.O.WalkOrder.rank c.args.order.now) (g.O.WalkOrder.before c.args.order.now) c.args.cone.now c.args.tables.now c.args.given.now c.args.walk.now c.loop-last.branches.items c.loop-last.last
    c.requires.cone c.requires.order.ranked c.requires.tables c.loop-last.invariant (omega (arith, test, len))

pub loop-last-preserved : goal.loop-last-preserved
loop-last-preserved g c =
    let test = c.loop-last-test.true in
    let len = c.len-last-end.ensures in
    let more : suc c.loop-last.last < length c.args.walk.now.nodes = omega (arith, test, len) in
    subst (λ bs. IsSplitting (g.O.WalkOrder.rank c.args.order.now) (g.O.WalkOrder.before c.args.order.now) c.args.cone.now c.args.tables.now c.args.given.now c.args.walk.now bs (c.loop-last.last + 1))
    (sym (c.in_ok-add-2.ensures ∙ ap (λ m. c.loop-last.branches.items ++ made_list m) c.in_ok-made-2.ensures))
    (subst (IsSplitting (g.O.WalkOrder.rank c.args.order.now) (g.O.WalkOrder.before c.args.order.now) c.args.cone.now c.args.tables.now c.args.given.now c.args.walk.now _) (sym (add-one c.loop-last.last))
    (part_step (g.O.WalkOrder.rank c.args.order.now) (g.O.WalkOrder.before c.args.order.now) c.args.cone.now c.args.tables.now c.args.given.now c.args.walk.now c.loop-last.branches.items c.loop-last.last
    c.requires.cone c.requires.order.ranked c.requires.tables c.loop-last.invariant more))

pub returns : goal.returns
returns g c =
    let test = c.loop-last-test.false in
    let len = c.len-last-end.ensures in
    let all : length c.args.walk.now.nodes ≤ suc c.loop-last.last = omega (arith, test, len) in
    split_all (g.O.WalkOrder.rank c.args.order.now) (g.O.WalkOrder.before c.args.order.now) c.args.cone.now c.args.tables.now c.args.given.now c.args.walk.now c.loop-last.branches.items c.loop-last.last
    c.requires.cone c.requires.order.ranked c.requires.tables c.loop-last.invariant all
