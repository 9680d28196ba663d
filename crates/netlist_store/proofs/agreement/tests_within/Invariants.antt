use Rattle.std.proofs.Common.{◌≡◌, drop}
use Rattle.std.specs.List.{list_all, list_any}
use Rattle.timing_defs.specs.Edits.{same_test}
use Rattle.netlist_store.proofs.agreement.tests_within.Given as goal

abbrev pub invariant-loop-at : goal.invariant-loop-at
invariant-loop-at l = list_all (λ test. list_any (same_test test) l.others) (drop l.at l.tests) ≡ list_all (λ test. list_any (same_test test) l.others) l.tests
