use Rattle.live_session.specs.Talks.{at_door, telling}
use Rattle.live_session.proofs.TurnLaws.{cut_told}
use Rattle.live_session.proofs.talking.tell.Goals as goal

pub returns-in-Ok-mark-clause-told : goal.returns-in-Ok-mark-clause-told
returns-in-Ok-mark-clause-told g c =
    cut_told (telling (g.S.Keeper.safe c.mark.new.session) (g.S.Keeping.torn c.mark.new.session) c.args.manner.now) c.args.reply.now
    (at_door (g.D.Door.left c.args.door.now) (g.D.Door.trace c.args.door.now) (g.D.Door.faults c.args.door.now))
    (at_door (g.D.Door.left c.mark.new.door) (g.D.Door.trace c.mark.new.door) (g.D.Door.faults c.mark.new.door))
    (at_door (g.D.Door.left c.say.new.self) (g.D.Door.trace c.say.new.self) (g.D.Door.faults c.say.new.self))
    c.in-Ok.text.items c.mark.ensures.quiet.0 c.mark.ensures.quiet.1 c.in-Ok-mark.ensures.marked c.say.ensures.same
    c.in-Err-say.ensures.partly c.in-Err-say.ensures.cause c.in-Ok.ensures c.in-Ok-mark.ensures.kept
