use Rattle.std.proofs.Common.{◌≡◌, drop}
use Rattle.std.specs.List.{list_all}
use Rattle.liberty_cells.specs.Statements.{told}
use Rattle.liberty_cells.specs.Tables.{is_side}
use Rattle.liberty_cells.proofs.axes.are_sides.Given as goal

abbrev pub invariant-loop-value : goal.invariant-loop-value
invariant-loop-value l =
    list_all (is_side l.purpose) (told (drop l.value-index l.found)) ≡ list_all (is_side l.purpose) (told l.found)
