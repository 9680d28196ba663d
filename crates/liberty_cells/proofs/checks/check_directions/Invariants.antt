use Rattle.std.proofs.Common.{◌≡◌, drop}
use Rattle.std.specs.List.{flat_map}
use Rattle.sta_text.specs.Faults.{least_from}
use Rattle.liberty_cells.specs.Statements.{told}
use Rattle.liberty_cells.specs.Faults.{direction_faults}
use Rattle.liberty_cells.proofs.checks.check_directions.Given as goal

abbrev pub invariant-loop-pin : goal.invariant-loop-pin
invariant-loop-pin l =
    least_from l.least (flat_map direction_faults (told (drop l.pin-index l.pins))) ≡ least_from l.fn.best (flat_map direction_faults (told l.pins))
