use Rattle.std.proofs.Common.{◌≡◌, ◌++◌, drop}
use Rattle.liberty_cells.specs.Cells.{tests_from}
use Rattle.liberty_cells.proofs.needs.add_from.Given as goal

abbrev pub invariant-loop-clock : goal.invariant-loop-clock
invariant-loop-clock l =
    l.tests ++ tests_from l.needs (drop l.clock-index l.clocks) l.pin ≡ l.fn.tests ++ tests_from l.needs l.clocks l.pin
