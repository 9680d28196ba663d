use Rattle.std.proofs.Common.{◌≡◌, ◌≤◌, map, drop}
use Rattle.liberty_cells.specs.Cells.{pins_told}
use Rattle.liberty_cells.specs.Faults.{too_many, pin_tree}
use Rattle.liberty_cells.proofs.names.check_pin_count.Given as goal

abbrev pub invariant-loop-pin : goal.invariant-loop-pin
invariant-loop-pin l =
    (l.seen ≤ 10000)
    × (too_many 10000 l.seen (map pin_tree (pins_told (drop l.pin-index l.pins))) ≡ too_many 10000 0 (map pin_tree (pins_told l.pins)))
