use Rattle.std.proofs.Common.{ℕ, ◌≤◌, List}
use Rattle.version_board.specs.Callers.{IsSame}
use Rattle.live_session.specs.declared.replies.Reply.{Reply}
use Rattle.seated_session.specs.Seated.{HasAnswered}
use Rattle.live_session.specs.Talks.{at_door, telling}
use Rattle.live_session.specs.Turns.{IsTalking}
use Rattle.seated_session.proofs.talking.talk.Given as goal

-- the lines so far, and the replies to what they end
abbrev pub invariant-loop : goal.invariant-loop
invariant-loop g l = record {
  same : IsSame l.fn.session.seat l.session.seat;
  rises : l.fn.session.known.upto ≤ l.session.known.upto;
  talking :
      (lines : List (List ℕ)) × (replies : List Reply)
      × IsTalking (HasAnswered l.session) (telling l.session.known.upto l.session.known.torn l.manner)
      (at_door (g.D.Door.left l.fn.door) (g.D.Door.trace l.fn.door) (g.D.Door.faults l.fn.door))
      (at_door (g.D.Door.left l.door) (g.D.Door.trace l.door) (g.D.Door.faults l.door))
      lines replies l.reader l.clean;
}
