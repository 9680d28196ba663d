use Rattle.ranked_walks.specs.Searching.{IsSplitting}
use Rattle.ranked_walks.proofs.splitting.split.Given as goal

abbrev pub invariant-loop-last : goal.invariant-loop-last
invariant-loop-last g l = IsSplitting (g.O.WalkOrder.rank l.order) (g.O.WalkOrder.before l.order) l.cone l.tables l.given l.walk l.branches.items l.last
