use Rattle.worst_walks.specs.Best.{BestOf}
use Rattle.worst_walks.specs.Walks.{comes_before}
use Rattle.worst_walks.specs.Searches.{IsBefore}
use Rattle.worst_walks.proofs.searching.worst_walk.Given as goal

abbrev pub invariant-loop-place : goal.invariant-loop-place
invariant-loop-place g l = BestOf (comes_before (g.O.WalkOrder.rank l.order) (g.O.WalkOrder.before l.order)) (IsBefore l.cone l.place) l.worst
