use Rattle.std.proofs.Common.{drop}
use Rattle.bounded_slack.specs.Cuts.{sum_at, IsStill, IsSpread}
use Rattle.bounded_slack.proofs.searching.spread.Given as goal

abbrev pub invariant-loop-arc : goal.invariant-loop-arc
invariant-loop-arc g l = IsSpread (g.F.Fan.net l.fan) (sum_at l.reached) l.least l.held (IsStill (g.F.Fan.net l.fan) l.held.sum (drop l.arc-index l.arcs))
