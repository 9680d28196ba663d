use Rattle.std.proofs.Common.{◌≡◌, ◌++◌, map, drop}
use Rattle.liberty_cells.specs.Cells.{cell_pin}
use Rattle.liberty_cells.proofs.cells.add_named_pins.Given as goal

abbrev pub invariant-loop-name : goal.invariant-loop-name
invariant-loop-name l =
    l.pins ++ map (cell_pin l.dir l.cap) (drop l.name-index l.names) ≡ l.fn.pins ++ map (cell_pin l.dir l.cap) l.names
