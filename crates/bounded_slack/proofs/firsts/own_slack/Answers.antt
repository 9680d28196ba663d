use Rattle.std.proofs.Common.{Some, sym, ap, subst, ◌∙◌}
use Rattle.bounded_slack.specs.Nets.{minus_some, IsLow}
use Rattle.bounded_slack.proofs.Cutting.{low_sum, known_at}
use Rattle.bounded_slack.proofs.firsts.own_slack.Goals as goal

pub arcs_into-requires : goal.arcs_into-requires
arcs_into-requires g c = c.requires.held.low

pub offer-requires-clause-node : goal.offer-requires-clause-node
offer-requires-clause-node g c = c.requires.held.low

pub offer-requires-clause-arcs : goal.offer-requires-clause-arcs
offer-requires-clause-arcs g c = c.as_slice.ensures ∙ c.in_ok-arcs.ensures

pub minus-requires-clause-low : goal.minus-requires-clause-low
minus-requires-clause-low g c = subst IsLow (sym c.in_ok-offer.ensures) (c.requires.net.offers c.args.held.node c.requires.held.low)

pub minus-requires-clause-sum : goal.minus-requires-clause-sum
minus-requires-clause-sum g c = low_sum (g.F.Fan.net c.args.fan.now) c.args.held c.requires.net c.requires.held

pub returns : goal.returns
returns g c =
    known_at (g.F.Fan.net c.args.fan.now) c.args.held c.minus.result c.requires.held
    (c.minus.ensures ∙ ap (λ o. minus_some o (Some c.args.held.sum)) c.in_ok-offer.ensures)
