use Rattle.std.proofs.Common.{◌≡◌, [], replicate}
use Rattle.ranked_walks.proofs.outs.no_outs.Given as goal

abbrev pub invariant-loop-node : goal.invariant-loop-node
invariant-loop-node l = l.outs.items ≡ replicate l.node []
