use Rattle.std.proofs.Common.{◌≡◌, drop}
use Rattle.std.specs.List.{flat_map}
use Rattle.sta_text.specs.Faults.{least_from}
use Rattle.liberty_cells.specs.Faults.{name_faults}
use Rattle.liberty_cells.proofs.names.check_names.Given as goal

abbrev pub invariant-loop-arg : goal.invariant-loop-arg
invariant-loop-arg l =
    least_from l.least (flat_map name_faults ((drop l.arg-index l.args))) ≡ least_from l.fn.best (flat_map name_faults (l.args))
