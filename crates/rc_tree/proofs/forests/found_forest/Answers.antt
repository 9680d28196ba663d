use Rattle.std.proofs.Common.{length}
use Rattle.rc_tree.proofs.Growing.{found_next}
use Rattle.rc_tree.proofs.forests.found_forest.Goals as goal

pub loop-node-preserved : goal.loop-node-preserved
loop-node-preserved c = found_next c.args.segments.now (length c.args.links.now) c.loop-node.node c.loop-node.all c.in_ok-all-2.all c.loop-node.invariant c.in_ok-all-2.ensures.done
