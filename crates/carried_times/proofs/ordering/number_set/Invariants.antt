use Rattle.std.proofs.Common.{◌≡◌, [], drop}
use Rattle.std.specs.Prelude.{nat_eq}
use Rattle.indexmap.specs.IndexSet.{insert_all}
use Rattle.carried_times.proofs.ordering.number_set.Given as goal

abbrev pub invariant-loop-number : goal.invariant-loop-number
invariant-loop-number l = insert_all nat_eq l.found.keys (drop l.number-index l.numbers) ≡ insert_all nat_eq [] l.numbers
