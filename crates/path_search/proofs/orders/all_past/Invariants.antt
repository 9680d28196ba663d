use Rattle.std.proofs.Common.{◌≡◌, ◌+◌, map, take}
use Rattle.path_search.proofs.orders.all_past.Given as goal

abbrev pub invariant-loop-node : goal.invariant-loop-node
invariant-loop-node l = l.moved ≡ map (λ n. l.places + n) (take l.node-index l.nodes)
