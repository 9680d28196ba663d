use Rattle.version_board.specs.Callers.{IsSame}
use Rattle.base_tests.proofs.boards.add_all.Given as goal

abbrev pub invariant-loop-number : goal.invariant-loop-number
invariant-loop-number g l = IsSame l.initial.seat l.seat
