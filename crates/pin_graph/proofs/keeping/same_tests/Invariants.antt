use Rattle.std.proofs.Common.{◌≡◌, drop}
use Rattle.std.specs.Cmp.Lexicographic.{pointwise}
use Rattle.timing_defs.specs.Edits.{same_test}
use Rattle.pin_graph.proofs.keeping.same_tests.Given as goal

abbrev pub invariant-loop-test : goal.invariant-loop-test
invariant-loop-test l = pointwise same_test (drop l.test-index l.a) l.rest ≡ pointwise same_test l.a l.initial.rest
