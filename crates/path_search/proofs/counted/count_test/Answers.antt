use Rattle.std.proofs.Common.{FitsSigned, refl}
use Rattle.std.proofs.lemmas.Int.{to_z-of_z}
use Rattle.timing_defs.specs.Kinds.{data_split}
use Rattle.path_search.proofs.OfferForms.{launch_placed, tests_ready, tests_placed}
use Rattle.path_search.proofs.CountForms.{tests_known, chosen_placed, chosen_there, chosen_counted}
use Rattle.path_search.proofs.counted.count_test.Goals as goal
use mir.Syntax.{w64}

pub chosen_test-found-requires-clause-launch_place : goal.chosen_test-found-requires-clause-launch_place
chosen_test-found-requires-clause-launch_place g c =
    launch_placed c.args.sources.now.graph.now c.args.sources.now.store.now c.requires.sources.graph c.laws.ensures.numbered c.laws.ensures.linked c.laws-2.ensures c.args.sources.now.tree.now
    c.requires.sources.clocks (data_split c.args.sources.now.kind) c.args.number c.args.launch.now c.requires.launch

pub chosen_test-found-requires-clause-tests : goal.chosen_test-found-requires-clause-tests
chosen_test-found-requires-clause-tests g c =
    tests_ready c.args.sources.now.graph.now c.args.sources.now.store.now c.requires.sources.graph c.laws.ensures.numbered c.laws.ensures.linked c.laws-2.ensures c.args.sources.now.tree.now
    c.requires.sources.clocks c.args.sources.now.kind c.args.end c.args.tests.now c.requires.tests c.requires.there

pub chosen_test-found-requires-clause-places : goal.chosen_test-found-requires-clause-places
chosen_test-found-requires-clause-places g c =
    tests_placed c.args.sources.now.graph.now c.args.sources.now.store.now c.requires.sources.graph c.laws.ensures.numbered c.laws.ensures.linked c.laws-2.ensures c.args.sources.now.tree.now
    c.requires.sources.clocks c.args.sources.now.kind c.args.end c.args.tests.now c.requires.tests c.requires.there

pub chosen_test-found-requires-clause-known : goal.chosen_test-found-requires-clause-known
chosen_test-found-requires-clause-known g c =
    tests_known c.args.sources.now.graph.now c.args.sources.now.store.now c.requires.sources.graph c.laws.ensures.numbered c.laws.ensures.linked c.laws-2.ensures c.args.sources.now.tree.now
    c.requires.sources.clocks c.args.sources.now.kind c.args.end c.args.tests.now c.requires.tests c.requires.there

pub credit_between-requires-clause-launch : goal.credit_between-requires-clause-launch
credit_between-requires-clause-launch g c =
    launch_placed c.args.sources.now.graph.now c.args.sources.now.store.now c.requires.sources.graph c.laws.ensures.numbered c.laws.ensures.linked c.laws-2.ensures c.args.sources.now.tree.now
    c.requires.sources.clocks (data_split c.args.sources.now.kind) c.args.number c.args.launch.now c.requires.launch

pub credit_between-requires-clause-capture : goal.credit_between-requires-clause-capture
credit_between-requires-clause-capture g c =
    let fits : FitsSigned w64 c.args.offer = c.ranges.offer in
    chosen_placed c.args.sources.now.graph.now c.args.sources.now.store.now c.requires.sources.graph c.laws.ensures.numbered c.laws.ensures.linked c.laws-2.ensures c.args.sources.now.tree.now
    c.requires.sources.clocks c.args.sources.now.kind c.args.end c.args.tests.now c.requires.tests c.requires.there
    c.args.number c.args.launch.now c.requires.launch c.args.offer c.chosen_test-found.result (simp to_z-of_z at c.chosen_test-found.ensures) c.in-Some.chosen c.in-Some.is

pub unreachable-requires : goal.unreachable-requires
unreachable-requires g c =
    let fits : FitsSigned w64 c.args.offer = c.ranges.offer in
    chosen_there c.args.sources.now.graph.now c.args.sources.now.store.now c.requires.sources.graph c.laws.ensures.numbered c.laws.ensures.linked c.laws-2.ensures c.args.sources.now.tree.now
    c.requires.sources.clocks c.args.sources.now.kind c.args.end c.args.tests.now c.requires.tests c.requires.there
    c.args.number c.args.launch.now c.requires.launch c.args.offer c.chosen_test-found.result (simp to_z-of_z at c.chosen_test-found.ensures) c.requires.offer c.in-None.is

pub returns-clause-counted : goal.returns-clause-counted
returns-clause-counted g c =
    let fits : FitsSigned w64 c.args.offer = c.ranges.offer in
    chosen_counted c.args.sources.now.graph.now c.args.sources.now.store.now c.requires.sources.graph c.laws.ensures.numbered c.laws.ensures.linked c.laws-2.ensures c.args.sources.now.tree.now
    c.requires.sources.clocks c.args.sources.now.kind c.args.end c.args.tests.now c.requires.tests c.requires.there
    c.args.number c.args.launch.now c.requires.launch c.args.offer c.chosen_test-found.result (simp to_z-of_z at c.chosen_test-found.ensures) c.requires.offer c.in-Some.chosen
    c.in-Some.is _ refl refl refl refl refl c.credit_between.ensures.value
