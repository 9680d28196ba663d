use Rattle.pin_graph.specs.Graphs.{level_at}
use Rattle.node_tests.specs.Walks.{IsAbove}
use Rattle.node_tests.proofs.climbs.climbed.Given as goal

abbrev pub invariant-loop-from : goal.invariant-loop-from
invariant-loop-from l = IsAbove l.graph l.node l.top

abbrev pub decreases-loop-from : goal.decreases-loop-from
decreases-loop-from l = level_at l.graph l.top
