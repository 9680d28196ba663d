use Rattle.std.proofs.Common.{◌≤◌}
use Rattle.version_board.specs.Callers.{IsSame}
use Rattle.journal_tests.proofs.desks.keep_each.Given as goal

abbrev pub invariant-loop : goal.invariant-loop
invariant-loop g l = IsSame l.initial.seat l.seat × (l.told ≤ l.receipt.upto)
