use Rattle.pin_graph.specs.Graphs.{level_at}
use Rattle.path_search.proofs.ClimbNames.{IsWayBack}
use Rattle.path_search.proofs.orders.way_back.Given as goal

abbrev pub invariant-loop-from : goal.invariant-loop-from
invariant-loop-from l = IsWayBack l.graph l.fn.node l.top l.nodes

abbrev pub decreases-loop-from : goal.decreases-loop-from
decreases-loop-from l = level_at l.graph l.top
