use Rattle.std.proofs.Common.{◌≡◌, drop}
use Rattle.liberty_cells.specs.Cells.{names_on}
use Rattle.liberty_cells.proofs.pins.add_names.Given as goal

abbrev pub invariant-loop-arg : goal.invariant-loop-arg
invariant-loop-arg l =
    names_on l.names (drop l.arg-index l.args) ≡ names_on l.fn.names l.args
