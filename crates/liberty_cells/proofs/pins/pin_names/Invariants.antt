use Rattle.std.proofs.Common.{◌≡◌, drop}
use Rattle.liberty_cells.specs.Cells.{pins_told, pin_args, pin_names, names_on}
use Rattle.liberty_cells.proofs.pins.pin_names.Given as goal

abbrev pub invariant-loop-pin : goal.invariant-loop-pin
invariant-loop-pin l =
    names_on l.names (pin_args (pins_told (drop l.pin-index l.pins))) ≡ pin_names (pins_told l.pins)
