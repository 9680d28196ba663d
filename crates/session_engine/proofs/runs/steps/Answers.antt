use Rattle.std.proofs.Common.{rules, ◌≡◌, ℕ, ◌+◌, List, [], ◌∷◌, ◌++◌, length, take, drop, refl, sym, ap, subst, ◌∙◌}
use Rattle.std.proofs.lemmas.List.{take_more, take-append-drop}
use Rattle.std.specs.Arc.{arc_value}
use Rattle.timing_defs.specs.declared.scripts.Command.{Command}
use Rattle.timing_defs.specs.declared.scripts.Row.{Row}
use Rattle.session_engine.specs.Running.{IsRun}
use Rattle.session_engine.proofs.Sights.{same_then}
use Rattle.session_engine.proofs.Rows.{stopped_behind, on_error}
use Rattle.session_engine.proofs.runs.steps.Goals as goal

pub loop-command-init : goal.loop-command-init
loop-command-init g c =
    record {
      at = refl;
      same = c.in_ok-held.ensures.same;
      holds = c.in_ok-held.ensures.holds;
      long = search rules;
      room = refl;
      run =
          subst (λ (rows : List Row). IsRun c.args.board.now.opening.origin c.args.board.now.opening.first c.args.who c.args.seat.now.view [] c.begin_session.new.seat.view (arc_value c.in_ok-held.held) rows)
          (sym c.requires.empty) c.in_ok-held.ensures.run;
    }

pub loop-command-preserved : goal.loop-command-preserved
loop-command-preserved g c =
    let so : take c.loop-command.command-index c.args.commands.now ++ c.command-item.result ∷ [] ≡ take (c.loop-command.command-index + 1) c.args.commands.now =
    ap (λ (x : Command). take c.loop-command.command-index c.args.commands.now ++ x ∷ []) c.command-item.is
    ∙ sym (take_more c.args.commands.now c.loop-command.command-index c.command-item.result c.loop-command-test.true) in
    let many : length (take c.loop-command.command-index c.args.commands.now) ≡ c.loop-command.command-index = search rules in
    record {
      at = ap (λ (n : ℕ). n + 1) c.loop-command.invariant.at;
      same = same_then c.args.seat.now c.loop-command.seat c.step.new.seat c.loop-command.invariant.same c.in_ok-held-2.ensures.same;
      holds = c.in_ok-held-2.ensures.holds;
      long = c.in_ok-held-2.ensures.long ∙ ap (λ (n : ℕ). n + 1) c.loop-command.invariant.long;
      room = c.in_ok-held-2.ensures.room ∙ c.loop-command.invariant.room;
      run =
          subst (λ (cs : List Command). IsRun c.args.board.now.opening.origin c.args.board.now.opening.first c.args.who c.args.seat.now.view cs c.step.new.seat.view (arc_value c.in_ok-held-2.held) c.step.new.rows.items) so
          (c.in_ok-held-2.ensures.run c.args.board.now.opening.origin c.args.board.now.opening.first c.args.seat.now.view (take c.loop-command.command-index c.args.commands.now)
          (c.loop-command.invariant.same.3 ∙ c.requires.seat.1) (c.loop-command.invariant.same.2 ∙ c.requires.seat.2)
          (c.loop-command.invariant.at ∙ ap (λ (n : ℕ). n + 1) (sym many)) c.loop-command.invariant.run);
    }

pub returns-in_err-held-2-clause-stopped : goal.returns-in_err-held-2-clause-stopped
returns-in_err-held-2-clause-stopped g c =
    on_error c.from_residual-in_err-held-2.result
    (stopped_behind c.args.board.now.opening.origin c.args.board.now.opening.first c.args.who (take c.loop-command.command-index c.args.commands.now) c.args.commands.now
    c.args.seat.now.view c.loop-command.seat.view c.step.new.seat.view (arc_value c.loop-command.held) c.loop-command.rows.items
    (drop c.loop-command.command-index c.args.commands.now, take-append-drop c.loop-command.command-index c.args.commands.now)
    c.loop-command.invariant.run c.in_err-held-2.ensures.looked)
