use Rattle.std.proofs.Common.{◌≡◌, ◌++◌, take}
use Rattle.path_search.proofs.near_cones.joined.Given as goal

abbrev pub invariant-loop-node : goal.invariant-loop-node
invariant-loop-node l = l.all ≡ l.fn.first ++ take l.node-index l.second
