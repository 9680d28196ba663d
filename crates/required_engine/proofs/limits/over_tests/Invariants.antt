use Rattle.std.proofs.Common.{◌≡◌, drop, Some}
use Rattle.timing_rules.specs.Rows.{outermost}
use Rattle.timing_defs.specs.Kinds.{kind_of, other_split}
use Rattle.node_tests.specs.declared.node_test.NodeTest.{NodeTest}
use Rattle.required_engine.specs.Behinds.{told_limit, over_tests}
use Rattle.required_engine.proofs.limits.over_tests.Given as goal

abbrev pub invariant-loop-test : goal.invariant-loop-test
invariant-loop-test l =
    outermost (other_split l.split) (λ (t : NodeTest). Some (told_limit l.store.design (kind_of l.split) (l.clock, l.tran) t)) l.best (drop l.test-index l.tests)
    ≡ over_tests l.store.design l.split l.tests (l.clock, l.tran)
