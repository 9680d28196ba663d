use Rattle.std.proofs.Common.{◌∙◌}
use Rattle.timing_rules.specs.Stages.{stages}
use Rattle.timed_paths.specs.TestNumbers.{test_of}
use Rattle.timed_paths.proofs.timed.found_of.Goals as goal

pub returns : goal.returns
returns g c = record {
  test = test_of c.args.sources.now.store.now c.in_ok-test.test;
  holds = c.in_ok-test.ensures.holds;
  stages_are = c.in_ok-stages.ensures ∙ (λ i. stages c.args.sources.now.store.now.design (c.data_split-split.ensures i) (c.as_slice.ensures i));
  capture_are = c.in_ok-capture.ensures;
  parts_are = c.in_ok-parts.ensures;
}
