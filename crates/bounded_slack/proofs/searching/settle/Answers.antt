use Rattle.std.proofs.Common.{true, Some, sym, ap, subst, ◌∙◌}
use Rattle.bounded_slack.specs.Nets.{minus_some, lesser, IsLow}
use Rattle.bounded_slack.specs.Cuts.{sum_at}
use Rattle.bounded_slack.proofs.Cutting.{low_sum, settled_shut, shut_is, spread_found}
use Rattle.bounded_slack.proofs.searching.settle.Goals as goal

pub room-requires-clause-net : goal.room-requires-clause-net
room-requires-clause-net g c = c.requires.net.shape

pub room-requires-clause-held : goal.room-requires-clause-held
room-requires-clause-held g c = c.requires.searching.front.0

pub returns-then-is_shut : goal.returns-then-is_shut
returns-then-is_shut g c =
    let net = g.F.Fan.net c.args.fan.now in
    settled_shut net (sum_at c.args.reached.now) c.args.least c.args.held c.requires.net
    (shut_is net c.args.least c.args.held c.room.result c.is_shut.result true c.room.ensures c.is_shut.ensures c.if-is_shut.true) c.requires.searching

pub arcs_into-requires : goal.arcs_into-requires
arcs_into-requires g c = c.requires.searching.front.0.low

pub offer-requires-clause-node : goal.offer-requires-clause-node
offer-requires-clause-node g c = c.requires.searching.front.0.low

pub offer-requires-clause-arcs : goal.offer-requires-clause-arcs
offer-requires-clause-arcs g c = c.as_slice.ensures ∙ c.in_ok-arcs.ensures

pub minus-requires-clause-low : goal.minus-requires-clause-low
minus-requires-clause-low g c = subst IsLow (sym c.in_ok-offer.ensures) (c.requires.net.shape.offers c.args.held.node c.requires.searching.front.0.low)

pub minus-requires-clause-sum : goal.minus-requires-clause-sum
minus-requires-clause-sum g c = low_sum (g.F.Fan.net c.args.fan.now) c.args.held c.requires.net.shape c.requires.searching.front.0

pub spread-requires-clause-net : goal.spread-requires-clause-net
spread-requires-clause-net g c = c.requires.net

pub spread-requires-clause-held : goal.spread-requires-clause-held
spread-requires-clause-held g c = c.requires.searching.front.0

pub spread-requires-clause-arcs : goal.spread-requires-clause-arcs
spread-requires-clause-arcs g c = c.as_slice-2.ensures ∙ c.in_ok-arcs.ensures

pub spread-requires-clause-still : goal.spread-requires-clause-still
spread-requires-clause-still g c =
    spread_found (g.F.Fan.net c.args.fan.now) (sum_at c.args.reached.now) c.args.least c.lesser-found.result c.args.held
    (c.lesser-found.ensures ∙ ap (lesser c.args.least) (c.minus.ensures ∙ ap (λ o. minus_some o (Some c.args.held.sum)) c.in_ok-offer.ensures))
    c.requires.searching

pub returns : goal.returns
returns g c = c.in_ok-spread.ensures
