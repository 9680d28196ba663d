use Rattle.std.proofs.Common.{◌≡◌, length}
use Rattle.std.specs.Arc.{arc_value}
use Rattle.timing_rules.specs.Sessions.{Looks}
use Rattle.version_board.specs.Callers.{IsSame}
use Rattle.session_engine.specs.Looking.{Holds, Saw}
use Rattle.session_engine.proofs.commands.wait.Given as goal

-- the looks so far are below the number that is awaited
abbrev pub invariant-loop-at : goal.invariant-loop-at
invariant-loop-at g l = record {
  same : IsSame l.fn.seat l.seat;
  saw : Saw l.fn.seat.view l.seen l.seat.view;
  holds : Holds l.seat.view (arc_value l.newest);
  looks : Looks (arc_value l.fn.held).number l.number (arc_value l.newest).number l.seen;
  long : length l.seen ≡ l.at;
}
