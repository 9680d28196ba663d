use Rattle.std.proofs.Common.{◌≡◌, drop, true}
use Rattle.timing_defs.specs.declared.kinds.Split.TheVariants.{Early}
use Rattle.timing_rules.specs.Rows.{outermost}
use Rattle.path_search.specs.Slacks.{slack_where, least_slack, is_low}
use Rattle.path_search.proofs.test_slacks.least_slack.Given as goal

abbrev pub invariant-loop-test : goal.invariant-loop-test
invariant-loop-test l =
    (outermost Early (slack_where l.store.design l.kind l.tree l.launch) l.least (drop l.test-index l.tests) ≡ least_slack l.store.design l.kind l.tree l.launch l.tests)
    × (is_low l.least ≡ true)
