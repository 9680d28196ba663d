use Rattle.path_search.proofs.OfferLists.{AreOffersUpTo}
use Rattle.path_search.proofs.offers.tested_offers.Given as goal

abbrev pub invariant-loop-place : goal.invariant-loop-place
invariant-loop-place g l =
    AreOffersUpTo l.sources.store.now l.sources.kind l.nodes l.rise l.made.rise l.place
    × AreOffersUpTo l.sources.store.now l.sources.kind l.nodes l.fall l.made.fall l.place
