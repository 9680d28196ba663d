use Rattle.bounded_slack.specs.Cuts.{sum_at, top_of}
use Rattle.bounded_slack.specs.Nears.{IsNearSearch}
use Rattle.bounded_slack.proofs.nears.nodes_within.Given as goal

abbrev pub invariant-loop-next : goal.invariant-loop-next
invariant-loop-next g l = IsNearSearch (g.F.Fan.net l.fan) l.bound.most (sum_at l.reached) l.nodes l.next

abbrev pub decreases-loop-next : goal.decreases-loop-next
decreases-loop-next g l = top_of l.next
