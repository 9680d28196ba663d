use Rattle.std.proofs.Common.{◌≡◌, drop, flat_map, length}
use Rattle.std.specs.Arc.{arc_value}
use Rattle.cow_table.specs.Pieces.{IsCut}
use Rattle.cow_table.specs.Writes.{written}
use Rattle.cow_table.proofs.writes.put_within.Given as goal

abbrev pub invariant-loop-at : goal.invariant-loop-at
invariant-loop-at g l =
    IsCut 4096 arc_value l.pages
    × (length (flat_map arc_value l.pages) ≡ l.count)
    × (written l.first (flat_map arc_value l.pages) (drop l.at l.places) (drop l.at l.values)
    ≡ written l.first (flat_map arc_value l.fn.pages) l.places l.values)
