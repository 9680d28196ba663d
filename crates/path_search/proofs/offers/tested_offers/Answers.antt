use Rattle.std.proofs.Common.{arith}
use Rattle.path_search.proofs.OfferLists.{offers_more, offers_done}
use Rattle.path_search.proofs.offers.tested_offers.Goals as goal

pub loop-place-preserved : goal.loop-place-preserved
loop-place-preserved g c =
    let rise = c.in_ok-add_node_offers.ensures.rise in
    let fall = c.in_ok-add_node_offers.ensures.fall in (
      offers_more c.args.sources.now.store.now c.args.sources.now.kind c.args.nodes.now c.args.rise c.loop-place.made.rise c.add_node_offers.new.made.rise c.loop-place.place
          c.loop-place.invariant.0 c.loop-place-test.true rise.0 rise.1 rise.2,
      offers_more c.args.sources.now.store.now c.args.sources.now.kind c.args.nodes.now c.args.fall c.loop-place.made.fall c.add_node_offers.new.made.fall c.loop-place.place
          c.loop-place.invariant.1 c.loop-place-test.true fall.0 fall.1 fall.2,
    )

pub returns-clause-rises : goal.returns-clause-rises
returns-clause-rises g c =
    offers_done c.args.sources.now.store.now c.args.sources.now.kind c.args.nodes.now c.args.rise c.loop-place.made.rise c.loop-place.place c.loop-place.invariant.0
    (let a = c.loop-place-test.false in let b = c.loop-place.auto.place-end in omega (arith, a, b))

pub returns-clause-falls : goal.returns-clause-falls
returns-clause-falls g c =
    offers_done c.args.sources.now.store.now c.args.sources.now.kind c.args.nodes.now c.args.fall c.loop-place.made.fall c.loop-place.place c.loop-place.invariant.1
    (let a = c.loop-place-test.false in let b = c.loop-place.auto.place-end in omega (arith, a, b))
