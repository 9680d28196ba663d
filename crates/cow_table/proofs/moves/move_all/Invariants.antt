use Rattle.std.proofs.Common.{◌≡◌, ◌+◌, drop, flat_map, length}
use Rattle.std.specs.Arc.{arc_value}
use Rattle.std.specs.Vec.Iter.{into_iter_items, into_iter_len}
use Rattle.cow_table.specs.Pieces.{IsCut}
use Rattle.cow_table.specs.Writes.{first_refused, written}
use Rattle.cow_table.proofs.moves.move_all.Given as goal

abbrev pub invariant-loop-value : goal.invariant-loop-value
invariant-loop-value g l =
    IsCut 4096 arc_value l.pages
    × (length (flat_map arc_value l.pages) ≡ l.count)
    × (l.at + length (into_iter_items l.value-iterator) ≡ length l.places)
    × (first_refused (into_iter_items l.value-iterator) ≡ first_refused l.fn.values.items)
    × (written 0 (flat_map arc_value l.pages) (drop l.at l.places) (into_iter_items l.value-iterator)
    ≡ written 0 (flat_map arc_value l.fn.pages) l.places l.fn.values.items)
    × (into_iter_len l.value-iterator ≡ length (into_iter_items l.value-iterator))
