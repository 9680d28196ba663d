use Rattle.std.proofs.Common.{◌≡◌, ◌++◌, List, drop}
use Rattle.sta_text.specs.Faults.{least_from}
use Rattle.timing_defs.specs.declared.liberty_tree.Lexeme.{Lexeme}
use Rattle.liberty_cells.specs.Faults.{doubles}
use Rattle.liberty_cells.proofs.names.note_doubles.Given as goal

abbrev pub invariant-loop-arg : goal.invariant-loop-arg
invariant-loop-arg l =
    (rest : List Lexeme) → least_from l.least (doubles l.names (drop l.arg-index l.args ++ rest)) ≡ least_from l.fn.best (doubles l.fn.names (l.args ++ rest))
