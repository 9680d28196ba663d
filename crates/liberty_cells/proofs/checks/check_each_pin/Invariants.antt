use Rattle.std.proofs.Common.{◌≡◌, drop}
use Rattle.std.specs.List.{flat_map}
use Rattle.sta_text.specs.Faults.{least_from}
use Rattle.liberty_cells.specs.Statements.{told}
use Rattle.liberty_cells.specs.Cells.{pins_told}
use Rattle.liberty_cells.specs.Faults.{pin_faults}
use Rattle.liberty_cells.proofs.checks.check_each_pin.Given as goal

abbrev pub invariant-loop-pin : goal.invariant-loop-pin
invariant-loop-pin l =
    least_from l.least (flat_map (pin_faults l.basis.extent l.basis.known (told l.basis.templates.now.trees) l.names) (pins_told (drop l.pin-index l.pins))) ≡ least_from l.fn.best (flat_map (pin_faults l.basis.extent l.basis.known (told l.basis.templates.now.trees) l.names) (pins_told l.pins))
