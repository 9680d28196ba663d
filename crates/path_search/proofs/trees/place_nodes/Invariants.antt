use Rattle.std.proofs.Common.{◌≡◌, Some, map}
use Rattle.std.specs.Prelude.{take}
use Rattle.path_search.proofs.trees.place_nodes.Given as goal

abbrev pub invariant-loop-node : goal.invariant-loop-node
invariant-loop-node l = l.nodes ≡ map Some (take l.node-index l.placed)
