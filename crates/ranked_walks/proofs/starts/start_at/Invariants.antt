use Rattle.std.proofs.Common.{[]}
use Rattle.ranked_walks.specs.Searching.{IsSearched, WaitsFrom}
use Rattle.ranked_walks.proofs.starts.start_at.Given as goal

abbrev pub invariant-loop-launch : goal.invariant-loop-launch
invariant-loop-launch g l = IsSearched (g.O.WalkOrder.rank l.order) (g.O.WalkOrder.before l.order) l.cone l.tables [] l.branches.items (WaitsFrom l.cone l.fn.place l.launch)
