use Rattle.std.proofs.Common.{true, subst, sym}
use Rattle.std.specs.Prelude.{Some}
use Rattle.live_session.specs.Talks.{at_door, telling}
use Rattle.live_session.specs.Turns.{Replies}
use Rattle.live_session.proofs.TurnLaws.{answered_on, replied}
use Rattle.seated_session.specs.Seated.{HasAnswered}
use Rattle.seated_session.proofs.Runs.{ran_still}
use Rattle.seated_session.proofs.Turns.{unanswered}
use Rattle.seated_session.proofs.talking.reply_to.Goals as goal

pub returns-in-Ok-clause-reply : goal.returns-in-Ok-clause-reply
returns-in-Ok-clause-reply g c =
    let told = c.tell_reply-end.new.self in
    let ran = HasAnswered c.args.session.now in
    let ran' = HasAnswered told in
    let way = telling told.known.upto told.known.torn c.args.manner.now in
    let old = at_door (g.D.Door.left c.args.door.now) (g.D.Door.trace c.args.door.now) (g.D.Door.faults c.args.door.now) in
    let new = at_door (g.D.Door.left c.tell_reply-end.new.door) (g.D.Door.trace c.tell_reply-end.new.door) (g.D.Door.faults c.tell_reply-end.new.door) in
    let same = c.tell_reply-end.ensures.same in
    subst (λ what. Replies ran ran' way what old new c.is_clean-clean.result c.tell_reply-end.result)
    (sym c.in-Some.is)
    (subst (λ k. Replies ran ran' way (Some c.in-Some.item) old new k c.tell_reply-end.result)
    (sym c.is_clean-clean.ensures)
    (replied ran ran' way c.in-Some.item c.in-Ok.reply old new c.tell_reply-end.result
    (answered_on ran (HasAnswered c.answer_item.new.session) ran' c.in-Some.item c.in-Ok.reply c.in-Ok.ensures.answer
    (ran_still c.answer_item.new.session told.seat told.held told.answered (sym same.0) (sym same.1) (sym same.2)))
    c.tell_reply-end.ensures.told))

pub returns-in-Err-clause-reply : goal.returns-in-Err-clause-reply
returns-in-Err-clause-reply g c =
    let session = c.answer_item.new.session in
    let ran = HasAnswered c.args.session.now in
    let ran' = HasAnswered session in
    let way = telling session.known.upto session.known.torn c.args.manner.now in
    let door = at_door (g.D.Door.left c.args.door.now) (g.D.Door.trace c.args.door.now) (g.D.Door.faults c.args.door.now) in
    subst (λ what. Replies ran ran' way what door door true (Some c.in-Err.end)) (sym c.in-Some.is)
    (unanswered ran ran' way c.in-Some.item door c.in-Err.end c.in-Err.ensures.answer)
