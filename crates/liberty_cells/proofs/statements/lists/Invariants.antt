use Rattle.std.proofs.Common.{◌≡◌, ◌++◌, drop}
use Rattle.liberty_cells.specs.Statements.{told, lists as found_in}
use Rattle.liberty_cells.proofs.statements.lists.Given as goal

abbrev pub invariant-loop-item : goal.invariant-loop-item
invariant-loop-item l =
    told l.found ++ found_in l.name (drop l.item-index l.items) ≡ found_in l.name l.items
