use Rattle.std.proofs.Common.{◌≡◌, ◌++◌, drop}
use Rattle.liberty_cells.specs.Tables.{flatten}
use Rattle.liberty_cells.proofs.tables.flatten.Given as goal

abbrev pub invariant-loop-row : goal.invariant-loop-row
invariant-loop-row l =
    l.values ++ flatten (drop l.row-index l.rows) ≡ flatten l.rows
