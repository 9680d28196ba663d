use Rattle.rc_tree.specs.Numbering.{numbered}
use Rattle.rc_tree.proofs.Weighing.{cap_more}
use Rattle.rc_tree.proofs.weights.add_caps.Goals as goal

pub loop-cap-preserved : goal.loop-cap-preserved
loop-cap-preserved c =
    cap_more (numbered c.args.nodes.now) c.args.forest.now c.args.caps.now c.loop-cap.cap-index c.cap-item.result c.place_of_node-place.result c.amount.result
    c.args.weights.items c.loop-cap.all.items c.add_at-all.result.items c.loop-cap-test.true c.cap-item.is c.requires.len c.requires.amounts c.place_of_node-place.ensures
    c.amount.ensures c.add_at-all.ensures c.loop-cap.invariant
