use Rattle.std.proofs.Common.{◌≡◌, drop}
use Rattle.std.specs.List.{flat_map}
use Rattle.sta_text.specs.Faults.{least_from}
use Rattle.liberty_cells.specs.Statements.{told}
use Rattle.liberty_cells.specs.Faults.{table_faults}
use Rattle.liberty_cells.proofs.checks.check_tables.Given as goal

abbrev pub invariant-loop-table : goal.invariant-loop-table
invariant-loop-table l =
    least_from l.least (flat_map (table_faults l.extent l.form (told l.templates.trees)) (told (drop l.table-index l.table-items))) ≡ least_from l.fn.best (flat_map (table_faults l.extent l.form (told l.templates.trees)) (told l.table-items))
