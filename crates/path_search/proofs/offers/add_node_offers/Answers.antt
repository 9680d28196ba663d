use Rattle.std.proofs.lemmas.Result.{on_ok_weaker}
use Rattle.path_search.proofs.offers.add_node_offers.Goals as goal

pub returns-clause-rise : goal.returns-clause-rise
returns-clause-rise g c = on_ok_weaker c.add_offer-2.result (λ put. (c.in_ok-offered.offered.rise, c.in_ok-offered.ensures.rise, c.in_ok-add_offer.ensures)) c.add_offer-2.ensures

pub returns-clause-fall : goal.returns-clause-fall
returns-clause-fall g c = on_ok_weaker c.add_offer-2.result (λ put. (c.in_ok-offered.offered.fall, c.in_ok-offered.ensures.fall, put)) c.add_offer-2.ensures
