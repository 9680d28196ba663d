use Rattle.node_tests.proofs.NeedLaws.{IsPassing}
use Rattle.node_tests.proofs.needs.need_of.Given as goal

abbrev pub invariant-loop-test : goal.invariant-loop-test
invariant-loop-test l = IsPassing l.clock_slew l.data_slew l.ends l.tests l.best l.test-index
