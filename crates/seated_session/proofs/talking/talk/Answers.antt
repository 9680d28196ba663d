use Rattle.std.proofs.Common.{[], true, refl, sym, subst, arith}
use Rattle.live_session.specs.Talks.{at_door, telling}
use Rattle.live_session.specs.Turns.{IsTalking}
use Rattle.live_session.proofs.JoinLaws.{talking_none, talking_still, talking_more, talked_all}
use Rattle.seated_session.specs.Seated.{HasAnswered}
use Rattle.seated_session.proofs.Runs.{same_twice}
use Rattle.seated_session.proofs.talking.talk.Goals as goal

pub loop-init : goal.loop-init
loop-init g c =
    let door = at_door (g.D.Door.left c.args.door.now) (g.D.Door.trace c.args.door.now) (g.D.Door.faults c.args.door.now) in
    let ran = HasAnswered c.args.session.now in
    let way = telling c.args.session.now.known.upto c.args.session.now.known.torn c.args.manner.now in
    record {
      same = (refl, refl, refl, refl);
      rises = omega arith;
      talking = ([], [], subst (λ r. IsTalking ran way door door [] [] r true) (sym c.new-reader.ensures) (talking_none ran way door c.requires));
    }

pub loop-preserved : goal.loop-preserved
loop-preserved g c =
    let so = c.loop.invariant.talking in
    let safe = c.hear_next.new.session.known.upto in
    let torn = c.hear_next.new.session.known.torn in
    let before = telling c.loop.session.known.upto c.loop.session.known.torn c.args.manner.now in
    let door = at_door (g.D.Door.left c.args.door.now) (g.D.Door.trace c.args.door.now) (g.D.Door.faults c.args.door.now) in
    let near = at_door (g.D.Door.left c.loop.door) (g.D.Door.trace c.loop.door) (g.D.Door.faults c.loop.door) in
    let still = talking_still (HasAnswered c.loop.session) before safe torn door near so.0 so.1 c.loop.reader c.loop.clean c.hear_next.ensures.rises so.2 in
    record {
      same = same_twice c.args.session.now.seat c.loop.session.seat c.hear_next.new.session.seat c.loop.invariant.same c.hear_next.ensures.same;
      rises = (let a = c.loop.invariant.rises in let b = c.hear_next.ensures.rises in omega (arith, a, b));
      talking =
          talking_more (HasAnswered c.loop.session) (HasAnswered c.hear_next.new.session) (telling safe torn c.args.manner.now)
          door near
          (at_door (g.D.Door.left c.hear_next.new.door) (g.D.Door.trace c.hear_next.new.door) (g.D.Door.faults c.hear_next.new.door))
          so.0 so.1 c.loop.reader c.loop.clean still c.in-Goes.next c.in-Goes.answered c.both-so_far.result c.both-so_far.ensures c.in-Goes.ensures.round;
    }

pub returns-in-Ends-clause-same : goal.returns-in-Ends-clause-same
returns-in-Ends-clause-same g c =
    same_twice c.args.session.now.seat c.loop.session.seat c.hear_next.new.session.seat c.loop.invariant.same c.hear_next.ensures.same

pub returns-in-Ends-clause-talked : goal.returns-in-Ends-clause-talked
returns-in-Ends-clause-talked g c =
    let so = c.loop.invariant.talking in
    let safe = c.hear_next.new.session.known.upto in
    let torn = c.hear_next.new.session.known.torn in
    let before = telling c.loop.session.known.upto c.loop.session.known.torn c.args.manner.now in
    let door = at_door (g.D.Door.left c.args.door.now) (g.D.Door.trace c.args.door.now) (g.D.Door.faults c.args.door.now) in
    let near = at_door (g.D.Door.left c.loop.door) (g.D.Door.trace c.loop.door) (g.D.Door.faults c.loop.door) in
    let still = talking_still (HasAnswered c.loop.session) before safe torn door near so.0 so.1 c.loop.reader c.loop.clean c.hear_next.ensures.rises so.2 in
    talked_all (HasAnswered c.loop.session) (HasAnswered c.hear_next.new.session) (telling safe torn c.args.manner.now)
    door near
    (at_door (g.D.Door.left c.hear_next.new.door) (g.D.Door.trace c.hear_next.new.door) (g.D.Door.faults c.hear_next.new.door))
    so.0 so.1 c.loop.reader c.loop.clean still c.in-Ends.end c.in-Ends.answered c.both-all.result c.both-all.ensures c.in-Ends.ensures.round
