use Rattle.std.proofs.Common.{rules, ◌≡◌, length, arith}
use Rattle.ranked_walks.proofs.EndTables.{enough, no_more}
use Rattle.ranked_walks.proofs.ranking.give.Goals.{then-loop-branches-test+else-not-is_empty, else-loop-branches-test}
use Rattle.ranked_walks.proofs.ranking.give.Goals as goal

pub returns : goal.returns
returns g c =
    let rank = g.O.WalkOrder.rank c.args.order.now in
    let before = g.O.WalkOrder.before c.args.order.now in
    let few = c.loop-branches.invariant.few in
    elim c.loop-branches-test.branch [
      | then-loop-branches-test+else-not-is_empty w ↦
          (let none : length c.loop-branches.branches.items ≡ 0 = search rules in
          no_more rank before c.args.cone.now c.args.tables.now c.loop-branches.given c.loop-branches.branches.items c.args.count c.loop-branches.invariant.searched few none)
      | else-loop-branches-test w ↦
          (let len = c.len.ensures in
          let test = w.loop-branches-test.false in
          let all : length c.loop-branches.given ≡ c.args.count = omega (arith, few, len, test) in
          enough rank before c.args.cone.now c.args.tables.now c.loop-branches.given c.loop-branches.branches.items c.args.count c.loop-branches.invariant.searched all)
    ]
