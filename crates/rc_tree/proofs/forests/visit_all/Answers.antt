use Rattle.std.proofs.Common.{length}
use Rattle.rc_tree.proofs.Growing.{visited_at}
use Rattle.rc_tree.proofs.forests.visit_all.Goals as goal

pub loop-index-preserved : goal.loop-index-preserved
loop-index-preserved c =
    visited_at c.args.segments.now (length c.args.forest.places.items) c.args.place c.args.home c.args.indexes.now c.loop-index.index-index c.args.forest c.loop-index.all c.in_ok-all.all
    c.requires.place c.loop-index-test.true c.loop-index.invariant c.in_ok-all.ensures.visited
