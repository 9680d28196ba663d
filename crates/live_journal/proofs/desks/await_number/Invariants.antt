use Rattle.std.proofs.Common.{◌≡◌}
use mathlib.Core.List.{IsPrefix}
use Rattle.version_board.specs.Callers.{IsSame}
use Rattle.live_journal.proofs.desks.await_number.Given as goal

abbrev pub invariant-loop : goal.invariant-loop
invariant-loop g l =
    IsSame l.initial.seat l.seat × (l.seat.view.mine ≡ l.initial.seat.view.mine) × IsPrefix l.initial.seat.view.seen l.seat.view.seen
