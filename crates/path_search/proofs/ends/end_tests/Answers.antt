use Rattle.std.proofs.Common.{List, sym, subst, ◌∙◌}
use Rattle.pin_graph.specs.Nodes.{pin_under}
use Rattle.netlist_store.specs.Numbering.{is_number}
use Rattle.node_tests.specs.declared.node_test.NodeTest.{NodeTest}
use Rattle.node_tests.specs.NodeTests.{AreTests, tests_numbered}
use Rattle.path_search.specs.Slacks.{AreToldTests, AreEndTestsOf}
use Rattle.path_search.proofs.Forms.{ok_then, pin_is, clocks_as, ends_as}
use Rattle.path_search.proofs.ends.end_tests.Goals as goal

pub told_tests-requires-clause-clocks : goal.told_tests-requires-clause-clocks
told_tests-requires-clause-clocks g c =
    clocks_as c.args.graph.now c.args.store.now c.requires.graph c.laws.ensures.numbered c.laws.ensures.linked c.laws-2.ensures c.as_slice.result.now
    (tests_numbered c.args.store.now c.args.kind c.args.end)
    (subst (λ (xs : List NodeTest). AreTests c.args.store.now xs (tests_numbered c.args.store.now c.args.kind c.args.end)) (sym c.as_slice.ensures) c.in_ok-found.ensures.tests)

pub returns : goal.returns
returns g c =
    ok_then c.told_tests.result (AreToldTests c.args.store.now c.args.graph.now c.in-Some.pin c.as_slice.result.now) (AreEndTestsOf c.args.graph.now c.args.kind c.args.end)
    c.told_tests.ensures
    (λ told b. ends_as c.args.graph.now c.args.store.now c.requires.graph c.laws.ensures.numbered c.laws.ensures.linked c.laws-2.ensures c.args.kind c.args.end c.in-Some.pin
    (pin_is (is_number c.args.graph.now.stored.pins (pin_under c.args.end)) c.in-Some.pin (pin_under c.args.end) (sym c.in-Some.is ∙ c.pin_of.ensures)) c.as_slice.result.now told c.requires.none
    (subst (λ (xs : List NodeTest). AreTests c.args.store.now xs (tests_numbered c.args.store.now c.args.kind c.args.end)) (sym c.as_slice.ensures) c.in_ok-found.ensures.tests) b)
