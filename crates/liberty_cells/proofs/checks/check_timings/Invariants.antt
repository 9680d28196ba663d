use Rattle.std.proofs.Common.{◌≡◌, drop}
use Rattle.std.specs.List.{flat_map}
use Rattle.sta_text.specs.Faults.{least_from}
use Rattle.liberty_cells.specs.Statements.{told}
use Rattle.liberty_cells.specs.Faults.{timing_faults}
use Rattle.liberty_cells.proofs.checks.check_timings.Given as goal

abbrev pub invariant-loop-group : goal.invariant-loop-group
invariant-loop-group l =
    least_from l.least (flat_map (timing_faults l.basis.extent l.basis.known (told l.basis.templates.now.trees) l.names l.dir) (told (drop l.group-index l.found))) ≡ least_from l.fn.best (flat_map (timing_faults l.basis.extent l.basis.known (told l.basis.templates.now.trees) l.names l.dir) (told l.found))
