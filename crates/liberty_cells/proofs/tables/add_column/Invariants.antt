use Rattle.std.proofs.Common.{◌≡◌, ◌++◌, drop}
use Rattle.liberty_cells.specs.Tables.{column}
use Rattle.liberty_cells.proofs.tables.add_column.Given as goal

abbrev pub invariant-loop-row : goal.invariant-loop-row
invariant-loop-row l =
    l.values ++ column l.at (drop l.row-index l.rows) ≡ l.fn.values ++ column l.at l.rows
