use Rattle.std.proofs.Common.{◌≡◌, map, take}
use Rattle.timed_paths.specs.Numbers.{number_named}
use Rattle.timed_paths.proofs.timed.numbers_of.Given as goal

abbrev pub invariant-loop-node : goal.invariant-loop-node
invariant-loop-node l = l.numbers ≡ map (λ n. number_named l.graph.stored (n.pin, n.tran)) (take l.node-index l.nodes)
