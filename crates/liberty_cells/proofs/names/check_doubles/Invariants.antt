use Rattle.std.proofs.Common.{◌≡◌, [], drop}
use Rattle.sta_text.specs.Faults.{least_from}
use Rattle.liberty_cells.specs.Statements.{told}
use Rattle.liberty_cells.specs.Faults.{doubles, first_names}
use Rattle.liberty_cells.proofs.names.check_doubles.Given as goal

abbrev pub invariant-loop-tree : goal.invariant-loop-tree
invariant-loop-tree l =
    least_from l.least (doubles l.names (first_names (told (drop l.tree-index l.trees)))) ≡ least_from l.fn.best (doubles [] (first_names (told l.trees)))
