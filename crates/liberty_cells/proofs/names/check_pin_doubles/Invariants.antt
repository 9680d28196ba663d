use Rattle.std.proofs.Common.{◌≡◌, [], drop}
use Rattle.sta_text.specs.Faults.{least_from}
use Rattle.liberty_cells.specs.Cells.{pins_told, pin_args}
use Rattle.liberty_cells.specs.Faults.{doubles}
use Rattle.liberty_cells.proofs.names.check_pin_doubles.Given as goal

abbrev pub invariant-loop-pin : goal.invariant-loop-pin
invariant-loop-pin l =
    least_from l.least (doubles l.names (pin_args (pins_told (drop l.pin-index l.pins)))) ≡ least_from l.fn.best (doubles [] (pin_args (pins_told l.pins)))
