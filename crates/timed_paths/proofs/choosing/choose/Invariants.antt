use Rattle.std.proofs.Common.{take}
use Rattle.std.specs.Prelude.{IfSome}
use Rattle.timed_paths.specs.Choices.{is_wanted, IsFirst}
use Rattle.timed_paths.specs.TestNumbers.{IsKnownTest}
use Rattle.timed_paths.proofs.choosing.choose.Given as goal

abbrev pub invariant-loop-test : goal.invariant-loop-test
invariant-loop-test g l = record {
  first : IsFirst l.sources.store.now (is_wanted l.sources.store.now l.sources.kind l.path l.course) (take l.test-index l.tests) l.best;
  known : IfSome l.best (IsKnownTest l.sources.store.now);
}
