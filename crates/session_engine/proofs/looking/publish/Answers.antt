use Rattle.std.specs.Arc.{arc_value}
use Rattle.session_engine.proofs.Sights.{next_added, next_continues}
use Rattle.session_engine.proofs.looking.publish.Goals as goal

pub publish-requires-clause-next : goal.publish-requires-clause-next
publish-requires-clause-next g c =
    next_continues c.args.who c.args.seat.now.view c.args.base.now (arc_value c.args.next) c.requires.next.0 c.args.board.now.opening.first c.args.board.now.opening.origin c.number.result
    c.requires.seat.1 c.requires.seat.2 c.requires.number c.requires.base c.laws.ensures c.number.ensures c.requires.next.1

pub returns-in-Ok-clause-offers : goal.returns-in-Ok-clause-offers
returns-in-Ok-clause-offers g c = λ eco next.
    next_added c.args.who c.args.seat.now.view c.publish.new.seat.view c.args.base.now (arc_value c.args.next) eco c.requires.base next
    c.in-Ok.ensures.published.1 c.in-Ok.ensures.seat.3 c.in-Ok.ensures.seat.2
