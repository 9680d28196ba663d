use Rattle.std.proofs.Common.{◌≡◌, None, replicate}
use Rattle.pin_graph.proofs.held_fans.no_lists.Given as goal

abbrev pub invariant-loop-node : goal.invariant-loop-node
invariant-loop-node l = l.lists ≡ replicate l.node None
