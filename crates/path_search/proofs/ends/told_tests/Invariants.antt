use Rattle.std.proofs.Common.{take}
use Rattle.path_search.specs.Slacks.{AreToldTests}
use Rattle.path_search.proofs.ends.told_tests.Given as goal

abbrev pub invariant-loop-test : goal.invariant-loop-test
invariant-loop-test l = AreToldTests l.store l.graph l.pin (take l.test-index l.found) l.tests
