use Rattle.path_search.proofs.EndLaws.{told_more}
use Rattle.path_search.proofs.ends.told_tests.Goals as goal

pub loop-test-preserved : goal.loop-test-preserved
loop-test-preserved c =
    told_more c.args.store.now c.args.graph.now c.args.pin c.args.found.now c.loop-test.test-index _ c.loop-test.tests c.push.new.self c.in_ok-told.told c.loop-test-test.true
    c.loop-test.invariant c.in_ok-told.ensures c.in_ok-push.ensures.ok
