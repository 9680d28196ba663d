use Rattle.std.proofs.Common.{◌≡◌, ◌++◌, ◌-◌}
use Rattle.liberty_cells.specs.Tables.{columns}
use Rattle.liberty_cells.proofs.tables.columns.Given as goal

abbrev pub invariant-loop-at : goal.invariant-loop-at
invariant-loop-at l =
    l.values ++ columns l.at (l.count - l.at) l.rows ≡ columns 0 l.count l.rows
