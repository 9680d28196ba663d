use Rattle.std.proofs.Common.{rules, ◌≡◌, inl, subst}
use Rattle.std.specs.Prelude.{Some}
use Rattle.live_session.specs.Talks.{at_door, telling}
use Rattle.live_session.specs.Turns.{Replies, item_of}
use Rattle.seated_session.specs.Seated.{HasAnswered}
use Rattle.seated_session.proofs.talking.read_line.Goals as goal

pub returns-in-Some-clause-read : goal.returns-in-Some-clause-read
returns-in-Some-clause-read g c =
    let session = c.reply_to.new.session in
    let ran = HasAnswered c.args.session.now in
    let ran' = HasAnswered session in
    let way = telling session.known.upto session.known.torn c.args.manner.now in
    let old = at_door (g.D.Door.left c.args.door.now) (g.D.Door.trace c.args.door.now) (g.D.Door.faults c.args.door.now) in
    let new = at_door (g.D.Door.left c.reply_to.new.door) (g.D.Door.trace c.reply_to.new.door) (g.D.Door.faults c.reply_to.new.door) in
    let is_end : c.reply_to.result.end ≡ Some c.in-Some.end = search rules in
    let is_item : c.in-Ok.field-0.item ≡ item_of c.args.reader c.args.line.items = search rules in
    inl
    (subst (λ e. Replies ran ran' way (item_of c.args.reader c.args.line.items) old new c.reply_to.result.clean e) is_end
    (subst (λ what. Replies ran ran' way what old new c.reply_to.result.clean c.reply_to.result.end) is_item c.reply_to.ensures.reply))
