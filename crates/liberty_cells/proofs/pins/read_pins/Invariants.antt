use Rattle.std.proofs.Common.{◌≡◌, ◌++◌, drop}
use Rattle.std.specs.List.{flat_map}
use Rattle.liberty_cells.specs.Statements.{told}
use Rattle.liberty_cells.specs.Cells.{pins_told, pin_in}
use Rattle.liberty_cells.proofs.pins.read_pins.Given as goal

abbrev pub invariant-loop-pin : goal.invariant-loop-pin
invariant-loop-pin l =
    pins_told l.found ++ flat_map pin_in (told (drop l.pin-index l.pins)) ≡ flat_map pin_in (told l.pins)
