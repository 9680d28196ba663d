use Rattle.std.proofs.Common.{◌≡◌, drop}
use Rattle.std.specs.List.{list_any}
use Rattle.liberty_cells.specs.Statements.{told}
use Rattle.liberty_cells.specs.Cells.{is_left_out_pin}
use Rattle.liberty_cells.proofs.pins.any_left_out.Given as goal

abbrev pub invariant-loop-pin : goal.invariant-loop-pin
invariant-loop-pin l =
    list_any is_left_out_pin (told (drop l.pin-index l.pins)) ≡ list_any is_left_out_pin (told l.pins)
