use Rattle.std.proofs.Common.{◌≡◌, take}
use Rattle.session_core.specs.Machine.{opening, after_all}
use Rattle.session_core.specs.Law.{IsReached}
use Rattle.session_core.specs.Cores.{state_of}
use Rattle.session_core.proofs.cores.Core.all.Given as goal

-- the events so far
abbrev pub invariant-loop-event : goal.invariant-loop-event
invariant-loop-event l = record {
  so_far : state_of l.core ≡ after_all (opening l.fn.first l.fn.scripts) (take l.event-index l.events);
  reached : IsReached (state_of l.core);
}
