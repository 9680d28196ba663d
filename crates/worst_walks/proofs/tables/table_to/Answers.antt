use Rattle.std.proofs.Common.{◌≡◌, ◌<◌, length, ap, ◌∙◌, arith}
use Rattle.std.specs.Vec.{with_items}
use Rattle.std.proofs.lemmas.List.{with_items_is}
use Rattle.worst_walks.specs.Walks.{count_of}
use Rattle.worst_walks.proofs.Filling.{filled_none, filled_as}
use Rattle.worst_walks.proofs.tables.table_to.Goals as goal

pub loop-node-preserved : goal.loop-node-preserved
loop-node-preserved g c =
    let long : length c.visit.new.rows ≡ length c.loop-node.rows.items = c.visit.auto.rows ∙ ap length c.deref_mut.ensures.value in
    let is : (with_items c.loop-node.rows c.visit.new.rows).items ≡ c.visit.new.rows = with_items_is c.loop-node.rows c.visit.new.rows (omega (arith, long)) in
    let low : c.loop-node.node < count_of c.args.cone.now = omega (arith, c.loop-node-test.true) in
    rw is
    (filled_as (g.O.WalkOrder.rank c.args.order.now) c.args.cone.now c.args.end c.loop-node.node c.loop-node.rows.items c.visit.new.rows c.requires.cone low c.loop-node.invariant
    (rw c.deref_mut.ensures.value at c.visit.ensures))

pub loop-node-init : goal.loop-node-init
loop-node-init g c = rw c.in_ok-rows.ensures (filled_none (g.O.WalkOrder.rank c.args.order.now) c.args.cone.now c.args.end c.requires.end)
