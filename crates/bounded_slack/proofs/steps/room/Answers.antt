use Rattle.std.proofs.Common.{Some, sym, ap, subst, ◌∙◌}
use Rattle.bounded_slack.specs.Nets.{minus_some, IsLow}
use Rattle.bounded_slack.proofs.Cutting.{low_sum}
use Rattle.bounded_slack.proofs.steps.room.Goals as goal

pub bound-requires : goal.bound-requires
bound-requires g c = c.requires.held.low

pub minus-requires-clause-low : goal.minus-requires-clause-low
minus-requires-clause-low g c = subst IsLow (sym c.bound.ensures) (c.requires.net.bounds c.args.held.node c.requires.held.low)

pub minus-requires-clause-sum : goal.minus-requires-clause-sum
minus-requires-clause-sum g c = low_sum (g.F.Fan.net c.args.fan.now) c.args.held c.requires.net c.requires.held

pub returns : goal.returns
returns g c = c.minus.ensures ∙ ap (λ o. minus_some o (Some c.args.held.sum)) c.bound.ensures
