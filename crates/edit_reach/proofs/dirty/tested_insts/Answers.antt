use Rattle.std.proofs.Common.{get_or}
use Rattle.std.proofs.lemmas.List.{get_or_default}
use Rattle.pin_graph.proofs.ArcLaws.{first_mapped_more}
use Rattle.edit_reach.specs.Besides.{tested_under}
use Rattle.edit_reach.proofs.dirty.tested_insts.Goals as goal

pub loop-node-preserved : goal.loop-node-preserved
loop-node-preserved c =
    first_mapped_more (tested_under c.args.store.now) c.loop-node.insts c.add_number.new.numbers c.args.nodes.now c.loop-node.node-index (get_or c.args.nodes.now c.loop-node.node-index 0) c.tested_under.result
    c.loop-node-test.true (get_or_default c.args.nodes.now c.loop-node.node-index 0 _ c.loop-node-test.true) c.tested_under.ensures c.loop-node.invariant c.in_ok-add_number.ensures
