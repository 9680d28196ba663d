use Rattle.std.proofs.Common.{◌≡◌, take, map}
use Rattle.carried_times.specs.Ordered.{leveled_at}
use Rattle.carried_times.proofs.ordering.with_levels.Given as goal

abbrev pub invariant-loop-node : goal.invariant-loop-node
invariant-loop-node l = l.made ≡ map (leveled_at l.graph) (take l.node-index l.nodes)
