use Rattle.worst_walks.specs.Best.{BestOf}
use Rattle.worst_walks.specs.Walks.{comes_before}
use Rattle.worst_walks.specs.Searches.{IsTiedBefore}
use Rattle.worst_walks.proofs.searching.first_tied.Given as goal

abbrev pub invariant-loop-launch : goal.invariant-loop-launch
invariant-loop-launch g l = BestOf (comes_before (g.O.WalkOrder.rank l.order) (g.O.WalkOrder.before l.order)) (IsTiedBefore l.cone l.place l.least l.launch) l.first
