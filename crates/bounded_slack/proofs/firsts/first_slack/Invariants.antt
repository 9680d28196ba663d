use Rattle.bounded_slack.specs.Cuts.{height_of, IsHeld, IsBehind}
use Rattle.bounded_slack.proofs.firsts.first_slack.Given as goal

abbrev pub invariant-loop-next : goal.invariant-loop-next
invariant-loop-next g l =
    record {
      at : IsHeld (g.F.Fan.net l.fan) l.at;
      next : IsBehind (g.F.Fan.net l.fan) l.at l.next;
    }

abbrev pub decreases-loop-next : goal.decreases-loop-next
decreases-loop-next g l = height_of l.next
