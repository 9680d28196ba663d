use Rattle.bounded_slack.specs.Cuts.{sum_at}
use Rattle.bounded_slack.specs.Nears.{HasSpread}
use Rattle.bounded_slack.proofs.nears.spread.Given as goal

abbrev pub invariant-loop-arc : goal.invariant-loop-arc
invariant-loop-arc g l = HasSpread (g.F.Fan.net l.fan) l.bound.most (sum_at l.initial.reached) (sum_at l.reached) l.held l.arcs l.arc-index
