use Rattle.std.proofs.Common.{◌≡◌, length}
use Rattle.std.specs.Vec.Iter.{into_iter_items, into_iter_len}
use Rattle.cow_table.specs.Writes.{first_refused}
use Rattle.cow_table.proofs.moves.first_refused.Given as goal

abbrev pub invariant-loop-value : goal.invariant-loop-value
invariant-loop-value g l =
    (first_refused (into_iter_items l.value-iterator) ≡ first_refused l.fn.values.items)
    × (into_iter_len l.value-iterator ≡ length (into_iter_items l.value-iterator))
