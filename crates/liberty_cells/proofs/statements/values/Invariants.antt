use Rattle.std.proofs.Common.{◌≡◌, ◌++◌, drop}
use Rattle.liberty_cells.specs.Statements.{told, values as found_in}
use Rattle.liberty_cells.proofs.statements.values.Given as goal

abbrev pub invariant-loop-item : goal.invariant-loop-item
invariant-loop-item l =
    told l.found ++ found_in l.name (drop l.item-index l.items) ≡ found_in l.name l.items
