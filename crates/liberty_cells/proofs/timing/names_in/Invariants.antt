use Rattle.std.proofs.Common.{◌≡◌, ◌++◌, drop}
use Rattle.liberty_cells.specs.Statements.{told}
use Rattle.liberty_cells.specs.Cells.{names_in}
use Rattle.liberty_cells.proofs.timing.names_in.Given as goal

abbrev pub invariant-loop-text : goal.invariant-loop-text
invariant-loop-text l =
    l.found ++ names_in (told (drop l.text-index l.texts)) ≡ names_in (told l.texts)
