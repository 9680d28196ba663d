use Rattle.std.proofs.Common.{◌≡◌, sym, subst}
use Rattle.std.specs.Prelude.{◌++◌, ◌∷◌, [], List}
use Rattle.std.specs.Arc.{arc_value}
use Rattle.timing_defs.specs.declared.scripts.Row.{Row}
use Rattle.session_engine.specs.Running.{IsRun}
use Rattle.session_engine.proofs.runs.step.Goals as goal

pub returns-in-Ok-clause-run : goal.returns-in-Ok-clause-run
returns-in-Ok-clause-run g c = λ origin first v commands from over at run.
    subst (λ (rows : List Row). IsRun origin first c.args.who v (commands ++ c.args.command.now ∷ []) c.answer_command.new.seat.view (arc_value c.in-Ok.answered.held) rows)
    (sym c.push_reserved.ensures.items)
    (c.in-Ok.ensures.run origin first v commands c.args.rows.now.items from over at run)
