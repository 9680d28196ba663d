use Rattle.std.proofs.Common.{◌≡◌, ◌++◌, drop}
use Rattle.std.specs.List.{flat_map}
use Rattle.liberty_cells.specs.Statements.{told}
use Rattle.liberty_cells.specs.Cells.{pin_told, arcs_of, tests_of, pin_arcs, pin_tests}
use Rattle.liberty_cells.proofs.cells.add_pin_groups.Given as goal

abbrev pub invariant-loop-group : goal.invariant-loop-group
invariant-loop-group l =
    (l.given.arcs ++ flat_map (arcs_of l.known (told l.templates.trees) l.names (pin_told l.pin)) (told (drop l.group-index l.group-items))
    ≡ l.fn.given.arcs ++ pin_arcs l.known (told l.templates.trees) l.names (pin_told l.pin))
    × (l.given.tests ++ flat_map (tests_of l.known (told l.templates.trees) l.names (pin_told l.pin)) (told (drop l.group-index l.group-items))
    ≡ l.fn.given.tests ++ pin_tests l.known (told l.templates.trees) l.names (pin_told l.pin))
