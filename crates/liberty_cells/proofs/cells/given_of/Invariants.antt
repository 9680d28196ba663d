use Rattle.std.proofs.Common.{◌≡◌, ◌++◌, drop}
use Rattle.std.specs.List.{flat_map}
use Rattle.liberty_cells.specs.Statements.{told}
use Rattle.liberty_cells.specs.Cells.{pins_told, pin_names, pin_arcs, pin_tests}
use Rattle.liberty_cells.proofs.cells.given_of.Given as goal

abbrev pub invariant-loop-pin : goal.invariant-loop-pin
invariant-loop-pin l =
    (l.given.arcs ++ flat_map (pin_arcs l.known (told l.templates.trees) (pin_names (pins_told l.pins))) (pins_told (drop l.pin-index l.pins))
    ≡ flat_map (pin_arcs l.known (told l.templates.trees) (pin_names (pins_told l.pins))) (pins_told l.pins))
    × (l.given.tests ++ flat_map (pin_tests l.known (told l.templates.trees) (pin_names (pins_told l.pins))) (pins_told (drop l.pin-index l.pins))
    ≡ flat_map (pin_tests l.known (told l.templates.trees) (pin_names (pins_told l.pins))) (pins_told l.pins))
