use Rattle.std.proofs.Common.{◌≡◌, drop}
use Rattle.std.specs.List.{flat_map}
use Rattle.sta_text.specs.Faults.{least_from}
use Rattle.liberty_cells.specs.Statements.{told}
use Rattle.liberty_cells.specs.Faults.{cap_unit_faults}
use Rattle.liberty_cells.proofs.headers.check_cap_units.Given as goal

abbrev pub invariant-loop-args : goal.invariant-loop-args
invariant-loop-args l =
    least_from l.least (flat_map (cap_unit_faults l.extent) (told (drop l.args-index l.found))) ≡ least_from l.fn.best (flat_map (cap_unit_faults l.extent) (told l.found))
