use Rattle.std.proofs.Common.{◌≡◌, ◌++◌, drop}
use Rattle.std.specs.List.{filter}
use Rattle.liberty_cells.specs.Statements.{told}
use Rattle.liberty_cells.specs.Cells.{is_kept, cells_of}
use Rattle.liberty_cells.proofs.pins.cells_of.Given as goal

abbrev pub invariant-loop-cell : goal.invariant-loop-cell
invariant-loop-cell l =
    told l.found ++ filter is_kept (told (drop l.cell-index l.cell-items)) ≡ cells_of l.items
