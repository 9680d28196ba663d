use Rattle.std.proofs.Common.{length}
use Rattle.rc_tree.proofs.Growing.{IsFoundTo}
use Rattle.rc_tree.proofs.forests.found_forest.Given as goal

abbrev pub invariant-loop-node : goal.invariant-loop-node
invariant-loop-node l = IsFoundTo l.segments (length l.links) l.node l.all
