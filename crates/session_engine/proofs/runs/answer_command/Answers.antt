use Rattle.std.proofs.Common.{rules, refl}
use Rattle.std.specs.Arc.{arc_value}
use Rattle.std.specs.Prelude.{◌++◌, ◌∷◌, []}
use Rattle.session_engine.proofs.Rows.{run_step}
use Rattle.session_engine.proofs.runs.answer_command.Goals as goal

pub returns-in-Ok-answer-clause-run : goal.returns-in-Ok-answer-clause-run
returns-in-Ok-answer-clause-run g c = λ origin first v commands rows from over at run.
    run_step origin first c.args.who v commands c.args.seat.now.view (arc_value c.args.held) rows c.answer.new.seat.view (arc_value c.in-Ok-answer.held)
    c.args.place c.args.command.now c.in-Ok-answer.answer c.deref.result.now c.deref-in-Ok-answer.result.now c.deref-in-Ok-answer-2.result.now c.in-Ok.query c.number-number.result
    (rows ++ record { command = c.args.place; query = c.in-Ok.query; number = c.number-number.result; answer = c.in-Ok-answer.answer } ∷ [])
    (search rules) c.laws.ensures c.requires.held (search rules) c.laws-in-Ok-answer.ensures c.in-Ok-answer.ensures.holds c.in-Ok-answer.ensures.same.3 c.in-Ok-answer.ensures.same.2
    c.requires.command c.in-Ok-answer.ensures.answers c.in-Ok.ensures (search rules) c.number-number.ensures refl from over at run
