use Rattle.std.proofs.Common.{◌≡◌, map, take}
use Rattle.timed_paths.specs.TestNumbers.{node_numbered}
use Rattle.timed_paths.proofs.captures.walk_nodes.Given as goal

abbrev pub invariant-loop-number : goal.invariant-loop-number
invariant-loop-number g l = l.nodes ≡ map (node_numbered l.sources.store.now l.split (l.clock, l.tran)) (take l.number-index l.numbers)
