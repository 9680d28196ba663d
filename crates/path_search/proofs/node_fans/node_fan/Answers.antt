use Rattle.std.proofs.Common.{◌<◌, List, length, sym, subst}
use Rattle.std.specs.Prelude.{All, IfSome}
use Rattle.path_search.specs.declared.ends.EndTest.{EndTest}
use Rattle.path_search.specs.Slacks.{IsReadyTest}
use Rattle.path_search.proofs.OfferForms.{tests_ready, tests_placed}
use Rattle.path_search.proofs.node_fans.node_fan.Goals as goal

pub lows_of-requires-clause-tests : goal.lows_of-requires-clause-tests
lows_of-requires-clause-tests g c =
    subst (λ (xs : List EndTest). All (IsReadyTest c.args.sources.now.store.now.design) xs) (sym c.as_slice.ensures)
    (tests_ready c.args.sources.now.graph.now c.args.sources.now.store.now c.requires.sources.graph c.laws.ensures.numbered c.laws.ensures.linked c.laws-2.ensures c.args.sources.now.tree.now
    c.requires.sources.clocks c.args.sources.now.kind c.args.end c.in_ok-tests.tests c.in_ok-tests.ensures c.requires.there)

pub lows_of-requires-clause-places : goal.lows_of-requires-clause-places
lows_of-requires-clause-places g c =
    subst (λ (xs : List EndTest). All (λ (t : EndTest). IfSome t.place (λ p. p < length c.args.sources.now.tree.now)) xs) (sym c.as_slice.ensures)
    (tests_placed c.args.sources.now.graph.now c.args.sources.now.store.now c.requires.sources.graph c.laws.ensures.numbered c.laws.ensures.linked c.laws-2.ensures c.args.sources.now.tree.now
    c.requires.sources.clocks c.args.sources.now.kind c.args.end c.in_ok-tests.tests c.in_ok-tests.ensures c.requires.there)
