use Rattle.std.proofs.Common.{◌≡◌, ◌++◌, drop}
use Rattle.std.specs.Prelude.{◌&&◌}
use Rattle.std.specs.List.{list_all}
use Rattle.liberty_cells.specs.Tables.{is_row_of, rows_of}
use Rattle.liberty_cells.proofs.tables.rows_of.Given as goal

abbrev pub invariant-loop-arg : goal.invariant-loop-arg
invariant-loop-arg l =
    ((l.good && list_all (is_row_of l.unit l.columns) (drop l.arg-index l.args)) ≡ list_all (is_row_of l.unit l.columns) l.args)
    × (l.rows ++ rows_of l.unit (drop l.arg-index l.args) ≡ rows_of l.unit l.args)
