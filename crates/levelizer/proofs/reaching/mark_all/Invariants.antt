use Rattle.std.proofs.Common.{take}
use Rattle.levelizer.specs.Reaching.{AreMarked}
use Rattle.levelizer.proofs.reaching.mark_all.Given as goal

abbrev pub invariant-loop-node : goal.invariant-loop-node
invariant-loop-node l = AreMarked (take l.node-index l.nodes) l.fn.marks l.marks l.fn.queue l.queue
