use Rattle.std.proofs.Common.{◌≤◌, ◌-◌, length}
use Rattle.ranked_walks.specs.Searching.{IsSearched, Nothing}
use Rattle.ranked_walks.proofs.ranking.give.Given as goal

abbrev pub invariant-loop-branches : goal.invariant-loop-branches
invariant-loop-branches g l =
    record {
      few : length l.given ≤ l.count;
      searched : IsSearched (g.O.WalkOrder.rank l.order) (g.O.WalkOrder.before l.order) l.cone l.tables l.given l.branches.items Nothing;
    }

abbrev pub decreases-loop-branches : goal.decreases-loop-branches
decreases-loop-branches g l = l.count - length l.given
