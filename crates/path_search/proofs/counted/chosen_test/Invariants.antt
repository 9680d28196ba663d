use Rattle.std.proofs.Common.{◌≡◌, drop, None}
use Rattle.std.specs.Prelude.{IfSome}
use Rattle.path_search.specs.Counts.{gives, chosen_over, IsKnown}
use Rattle.path_search.proofs.counted.chosen_test.Given as goal

abbrev pub invariant-loop-test : goal.invariant-loop-test
invariant-loop-test l =
    (chosen_over l.store (gives l.store.design l.kind l.tree l.launch l.offer) l.best (drop l.test-index l.tests)
    ≡ chosen_over l.store (gives l.store.design l.kind l.tree l.launch l.offer) None l.tests)
    × IfSome l.best (IsKnown l.store)
