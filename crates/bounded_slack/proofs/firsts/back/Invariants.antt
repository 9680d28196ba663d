use Rattle.bounded_slack.specs.Cuts.{IsBehind}
use Rattle.bounded_slack.proofs.firsts.back.Given as goal

abbrev pub invariant-loop-arc : goal.invariant-loop-arc
invariant-loop-arc g l = IsBehind (g.F.Fan.net l.fan) l.held l.best
