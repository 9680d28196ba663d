use Rattle.levelizer.proofs.Sweeps.{ready_more}
use Rattle.levelizer.proofs.sweeping.ready.Goals as goal

pub loop-node-preserved : goal.loop-node-preserved
loop-node-preserved c = λ m.
    ready_more c.loop-node.node m c.args.waiting.now _ _ (c.loop-node.invariant m) (c.in_ok-queue_if_free.ensures m)
