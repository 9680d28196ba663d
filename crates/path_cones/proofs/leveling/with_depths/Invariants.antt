use Rattle.std.proofs.Common.{◌≡◌, take, map}
use Rattle.path_cones.specs.Reaching.{leveled_at}
use Rattle.path_cones.proofs.leveling.with_depths.Given as goal

abbrev pub invariant-loop-node : goal.invariant-loop-node
invariant-loop-node l = l.made ≡ map (leveled_at l.graph) (take l.node-index l.nodes)
