use Rattle.std.proofs.Common.{[]}
use Rattle.ranked_walks.specs.Searching.{IsSearched, WaitsFrom}
use Rattle.ranked_walks.proofs.starts.start.Given as goal

abbrev pub invariant-loop-place : goal.invariant-loop-place
invariant-loop-place g l = IsSearched (g.O.WalkOrder.rank l.order) (g.O.WalkOrder.before l.order) l.cone l.tables [] l.branches.items (WaitsFrom l.cone l.place 0)
