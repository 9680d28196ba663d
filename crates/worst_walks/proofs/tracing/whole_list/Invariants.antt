use Rattle.std.proofs.Common.{◌≡◌, ◌<◌, ◌++◌, take}
use Rattle.std.specs.Prelude.{All}
use Rattle.worst_walks.proofs.tracing.whole_list.Given as goal

abbrev pub invariant-loop-node : goal.invariant-loop-node
invariant-loop-node g l =
    record {
      nodes : l.list ≡ l.initial.list ++ take l.node-index l.nodes;
      known : All (λ n. n < g.O.WalkOrder.count l.order) l.list;
    }
