use Rattle.std.specs.Arc.{arc_value}
use Rattle.version_board.specs.Callers.{IsSame}
use Rattle.session_engine.specs.Looking.{Holds, SawLast}
use Rattle.session_engine.proofs.commands.change.Given as goal

-- the base is what was seen last
abbrev pub invariant-loop : goal.invariant-loop
invariant-loop g l = record {
  same : IsSame l.fn.seat l.seat;
  saw : SawLast l.fn.seat.view (arc_value l.base).number l.seat.view;
  holds : Holds l.seat.view (arc_value l.base);
}
