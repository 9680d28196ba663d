use Rattle.std.proofs.Common.{rules}
use Rattle.seated_session.specs.Seated.{HasAnswered}
use Rattle.live_session.specs.Talks.{at_door, telling}
use Rattle.live_session.proofs.TurnLaws.{line_round, end_round}
use Rattle.seated_session.proofs.talking.hear_next.Goals as goal

pub returns-in-Ok-Some-clause-round : goal.returns-in-Ok-Some-clause-round
returns-in-Ok-Some-clause-round g c =
    line_round (HasAnswered c.args.session.now) (HasAnswered c.read_line.new.session) (telling c.read_line.new.session.known.upto c.read_line.new.session.known.torn c.args.manner.now) c.args.reader c.in-Ok-Some.line.items
    (at_door (g.D.Door.left c.args.door.now) (g.D.Door.trace c.args.door.now) (g.D.Door.faults c.args.door.now))
    (at_door (g.D.Door.left c.hear.new.self) (g.D.Door.trace c.hear.new.self) (g.D.Door.faults c.hear.new.self))
    (at_door (g.D.Door.left c.read_line.new.door) (g.D.Door.trace c.read_line.new.door) (g.D.Door.faults c.read_line.new.door))
    c.read_line.result (search rules, search rules) c.read_line.ensures.read

pub returns-in-None-clause-round : goal.returns-in-None-clause-round
returns-in-None-clause-round g c = (
  at_door (g.D.Door.left c.hear.new.self) (g.D.Door.trace c.hear.new.self) (g.D.Door.faults c.hear.new.self),
  (search rules, search rules),
  search rules,
)

pub returns-in-Some-clause-round : goal.returns-in-Some-clause-round
returns-in-Some-clause-round g c =
    end_round (HasAnswered c.args.session.now) (HasAnswered c.reply_to.new.session) (telling c.reply_to.new.session.known.upto c.reply_to.new.session.known.torn c.args.manner.now) c.args.reader
    (at_door (g.D.Door.left c.args.door.now) (g.D.Door.trace c.args.door.now) (g.D.Door.faults c.args.door.now))
    (at_door (g.D.Door.left c.hear.new.self) (g.D.Door.trace c.hear.new.self) (g.D.Door.faults c.hear.new.self))
    (at_door (g.D.Door.left c.reply_to.new.door) (g.D.Door.trace c.reply_to.new.door) (g.D.Door.faults c.reply_to.new.door))
    c.in-Some.end c.reply_to.result.clean (search rules, search rules) (search rules)
