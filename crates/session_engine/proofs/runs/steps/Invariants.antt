use Rattle.std.proofs.Common.{◌≡◌, ◌+◌, take}
use Rattle.std.specs.Prelude.{vec_len, vec_capacity}
use Rattle.std.specs.Arc.{arc_value}
use Rattle.version_board.specs.Callers.{IsSame}
use Rattle.session_engine.specs.Looking.{Holds}
use Rattle.session_engine.specs.Running.{IsRun}
use Rattle.session_engine.proofs.runs.steps.Given as goal

-- the rows of the commands so far
abbrev pub invariant-loop-command : goal.invariant-loop-command
invariant-loop-command g l = record {
  at : l.place ≡ l.command-index + 1;
  same : IsSame l.fn.seat l.seat;
  holds : Holds l.seat.view (arc_value l.held);
  long : vec_len l.rows ≡ l.command-index;
  room : vec_capacity l.rows ≡ vec_capacity l.fn.rows;
  run : IsRun l.board.opening.origin l.board.opening.first l.who l.fn.seat.view (take l.command-index l.commands) l.seat.view (arc_value l.held) l.rows.items;
}
