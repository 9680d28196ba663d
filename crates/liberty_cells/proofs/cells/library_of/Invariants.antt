use Rattle.std.proofs.Common.{◌≡◌, ◌++◌, drop}
use Rattle.std.specs.List.{flat_map}
use Rattle.liberty_cells.specs.Statements.{told}
use Rattle.liberty_cells.specs.Cells.{cell_in}
use Rattle.liberty_cells.proofs.cells.library_of.Given as goal

abbrev pub invariant-loop-cell : goal.invariant-loop-cell
invariant-loop-cell l =
    l.found ++ flat_map (cell_in l.known (told l.templates.trees)) (told (drop l.cell-index l.cells)) ≡ flat_map (cell_in l.known (told l.templates.trees)) (told l.cells)
