use Rattle.std.proofs.Common.{◌≡◌, map, take}
use Rattle.through_walks.specs.Layers.{past}
use Rattle.through_walks.proofs.orders.all_past.Given as goal

abbrev pub invariant-loop-node : goal.invariant-loop-node
invariant-loop-node l = l.moved ≡ map (past l.count) (take l.node-index l.nodes)
