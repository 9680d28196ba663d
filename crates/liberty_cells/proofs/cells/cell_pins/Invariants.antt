use Rattle.std.proofs.Common.{◌≡◌, ◌++◌, drop}
use Rattle.std.specs.List.{flat_map}
use Rattle.liberty_cells.specs.Cells.{pins_told, cell_pins}
use Rattle.liberty_cells.proofs.cells.cell_pins.Given as goal

abbrev pub invariant-loop-pin : goal.invariant-loop-pin
invariant-loop-pin l =
    l.found ++ flat_map (cell_pins l.unit) (pins_told (drop l.pin-index l.pins)) ≡ flat_map (cell_pins l.unit) (pins_told l.pins)
