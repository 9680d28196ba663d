use Rattle.bounded_slack.specs.Cuts.{sum_at, top_of, IsSearching}
use Rattle.bounded_slack.proofs.searching.least_slack.Given as goal

abbrev pub invariant-loop-next : goal.invariant-loop-next
invariant-loop-next g l = IsSearching (g.F.Fan.net l.fan) (sum_at l.reached) l.least l.next

abbrev pub decreases-loop-next : goal.decreases-loop-next
decreases-loop-next g l = top_of l.next
