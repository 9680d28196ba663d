use Rattle.path_search.proofs.EndLaws.{rows_fine, fault_is}
use Rattle.timed_paths.proofs.TestLaws.{tests_are, tests_known}
use Rattle.timed_paths.proofs.timed.tests_of.Goals as goal

pub node_tests-requires-clause-range : goal.node_tests-requires-clause-range
node_tests-requires-clause-range g c = rows_fine c.args.sources.now.store.now.design c.requires.sources.none

pub want_of_memory-requires : goal.want_of_memory-requires
want_of_memory-requires g c =
    fault_is c.args.sources.now.store.now c.laws.ensures.numbered c.laws.ensures.linked c.requires.sources.none c.args.sources.now.kind c.args.end c.in-Err.fault c.in-Err.ensures.err

pub returns-in-Ok-clause-tests : goal.returns-in-Ok-clause-tests
returns-in-Ok-clause-tests g c =
    tests_are c.args.sources.now.graph.now c.args.sources.now.store.now c.requires.sources.graph c.laws.ensures.numbered c.laws.ensures.linked c.laws-2.ensures c.requires.sources.none
    c.args.sources.now.kind c.args.end c.in-Ok.tests c.in-Ok.ensures.tests

pub returns-in-Ok-clause-known : goal.returns-in-Ok-clause-known
returns-in-Ok-clause-known g c =
    tests_known c.args.sources.now.graph.now c.args.sources.now.store.now c.requires.sources.graph c.laws.ensures.numbered c.laws.ensures.linked c.laws-2.ensures c.requires.sources.none
    c.args.sources.now.kind c.args.end c.in-Ok.tests c.in-Ok.ensures.tests
