use Rattle.std.proofs.Common.{◌≡◌, map, take}
use Rattle.std.specs.Prelude.{◌/◌}
use Rattle.through_walks.proofs.searching.places_of.Given as goal

abbrev pub invariant-loop-node : goal.invariant-loop-node
invariant-loop-node l = l.places ≡ map (λ n. n / l.stages) (take l.node-index l.nodes)
