use Rattle.std.proofs.Common.{◌≡◌, drop}
use Rattle.std.specs.List.{flat_map}
use Rattle.sta_text.specs.Faults.{least_from}
use Rattle.liberty_cells.specs.Statements.{told}
use Rattle.liberty_cells.specs.Faults.{cell_faults}
use Rattle.liberty_cells.proofs.checks.check_cells.Given as goal

abbrev pub invariant-loop-cell : goal.invariant-loop-cell
invariant-loop-cell l =
    least_from l.least (flat_map (cell_faults l.basis.extent l.basis.known (told l.basis.templates.now.trees)) (told (drop l.cell-index l.cells))) ≡ least_from l.fn.best (flat_map (cell_faults l.basis.extent l.basis.known (told l.basis.templates.now.trees)) (told l.cells))
