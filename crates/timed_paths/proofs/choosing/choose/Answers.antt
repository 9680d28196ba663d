use Rattle.timed_paths.specs.Choices.{is_wanted}
use Rattle.timed_paths.proofs.ChoiceLaws.{first_more_at, first_none}
use Rattle.timed_paths.proofs.choosing.choose.Goals as goal

pub loop-test-init : goal.loop-test-init
loop-test-init g c = record {
  first = first_none c.args.sources.now.store.now (is_wanted c.args.sources.now.store.now c.args.sources.now.kind c.args.path.now c.args.course.now);
  known = tt;
}

pub loop-test-preserved : goal.loop-test-preserved
loop-test-preserved g c = record {
  first =
      first_more_at c.args.sources.now.store.now (is_wanted c.args.sources.now.store.now c.args.sources.now.kind c.args.path.now c.args.course.now) c.args.tests.now c.loop-test.test-index _
      c.loop-test.best c.in_ok-wanted.wanted c.with_wanted-best.result c.loop-test-test.true c.in_ok-wanted.ensures c.with_wanted-best.ensures.value c.loop-test.invariant.first;
  known = c.with_wanted-best.ensures.known;
}
