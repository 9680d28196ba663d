use Rattle.std.proofs.Common.{refl, sym, subst}
use Rattle.live_session.specs.Talks.{at_door}
use Rattle.live_run.proofs.SeatLaws.{same_then, opened_at, shut, still_at, talked_back}
use Rattle.live_run.proofs.sessions.run_owned.Goals as goal

pub returns-in-Err : goal.returns-in-Err
returns-in-Err g c =
    let lost = c.in-Err.lost in
    let denied = subst (λ n. g.B.LiveRoom.denies n lost) (sym c.requires.new.0) (c.requires.denies c.args.who lost c.in-Err.ensures.cause) in
    shut _ g.B.LiveRoom.lines g.B.LiveRoom.denies c.args.manner.now c.args.seating.seat _ c.args.who c.requires.new refl refl
    (lost, denied, c.unopened.ensures.0) c.unopened.ensures.1

pub returns-in-Ok : goal.returns-in-Ok
returns-in-Ok g c =
    let door = c.in-Ok.door in
    let start = at_door (g.D.Door.left door) (g.D.Door.trace door) (g.D.Door.faults door) in
    let session = c.talk-outcome.new.session in
    let same = same_then c.args.seating.seat c.begin-session.result.seat session.seat c.begin-session.ensures.same c.talk-outcome.ensures.same in
    let opened = opened_at (g.N.Hall.lines c.args.hall.now) g.B.LiveRoom.lines c.args.who c.args.seating.seat.view.number start c.requires.hall c.requires.new.0
    c.in-Ok.ensures.lines c.in-Ok.ensures.untouched c.in-Ok.ensures.sound in
    let still = still_at c.close.ensures.left c.close.ensures.same c.close.ensures.quiet in
    talked_back _ g.B.LiveRoom.lines g.B.LiveRoom.denies c.args.manner.now c.args.seating.seat _ session c.talk-outcome.new.door c.close.new.self start
    c.end-seat.ensures.0 c.end-seat.ensures.1 refl still same opened
    c.talk-outcome.ensures.talked
