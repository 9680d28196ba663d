use Rattle.std.proofs.Common.{◌≡◌, ◌++◌, take}
use Rattle.ranked_walks.proofs.walking.joined.Given as goal

abbrev pub invariant-loop-node : goal.invariant-loop-node
invariant-loop-node l = l.all ≡ l.front ++ take l.node-index l.back
