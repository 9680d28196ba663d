use Rattle.std.proofs.Common.{◌≡◌, ◌++◌, drop}
use Rattle.liberty_cells.specs.Cells.{names_in, texts_of}
use Rattle.liberty_cells.proofs.timing.arg_names.Given as goal

abbrev pub invariant-loop-arg : goal.invariant-loop-arg
invariant-loop-arg l =
    l.found ++ names_in (texts_of (drop l.arg-index l.args)) ≡ names_in (texts_of l.args)
