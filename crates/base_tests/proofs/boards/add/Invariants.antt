use Rattle.std.proofs.Common.{◌≡◌}
use Rattle.version_board.specs.Callers.{IsSame}
use Rattle.base_tests.proofs.boards.add.Given as goal

abbrev pub invariant-loop : goal.invariant-loop
invariant-loop g l = IsSame l.initial.seat l.seat × (l.seat.view.mine ≡ l.initial.seat.view.mine)
