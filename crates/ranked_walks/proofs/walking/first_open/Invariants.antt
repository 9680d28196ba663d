use Rattle.ranked_walks.specs.Searching.{IsFront}
use Rattle.ranked_walks.proofs.walking.first_open.Given as goal

abbrev pub invariant-loop-place : goal.invariant-loop-place
invariant-loop-place g l = IsFront (g.O.WalkOrder.rank l.order) (g.O.WalkOrder.before l.order) l.cone l.tables l.given l.branches l.place l.at
