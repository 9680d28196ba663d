use Rattle.std.proofs.Common.{rules, ◌∙◌}
use Rattle.std.specs.Arc.{arc_value}
use Rattle.session_engine.proofs.Rows.{run_none}
use Rattle.session_engine.proofs.runs.begin_session.Goals as goal

pub returns-clause-run : goal.returns-clause-run
returns-clause-run g c =
    run_none c.args.board.now.opening.origin c.args.board.now.opening.first c.args.who c.args.seat.now.view c.taken.new.seat.view (arc_value c.in_ok-held.held) c.deref.result.now
    (search rules) c.laws.ensures c.in_ok-held.ensures.holds (c.in_ok-held.ensures.same.3 ∙ c.requires.seat.1) c.in_ok-held.ensures.saw
