use Rattle.path_search.proofs.EndLaws.{rows_fine, fault_is}
use Rattle.path_search.proofs.ends.fine_tests.Goals as goal

pub node_tests-requires-clause-range : goal.node_tests-requires-clause-range
node_tests-requires-clause-range g c = rows_fine c.args.store.now.design c.requires.none

pub want_of_memory-requires : goal.want_of_memory-requires
want_of_memory-requires g c =
    fault_is c.args.store.now c.laws.ensures.numbered c.laws.ensures.linked c.requires.none c.args.kind c.args.end c.in-Err.fault c.in-Err.ensures.err
