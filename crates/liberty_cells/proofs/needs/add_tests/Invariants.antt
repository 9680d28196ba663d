use Rattle.std.proofs.Common.{◌≡◌, ◌++◌, drop}
use Rattle.liberty_cells.specs.Cells.{all_tests}
use Rattle.liberty_cells.proofs.needs.add_tests.Given as goal

abbrev pub invariant-loop-pin : goal.invariant-loop-pin
invariant-loop-pin l =
    l.tests ++ all_tests l.needs l.clocks (drop l.pin-index l.pins) ≡ l.fn.tests ++ all_tests l.needs l.clocks l.pins
