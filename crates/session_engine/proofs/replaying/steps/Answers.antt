use Rattle.std.proofs.Common.{rules, ◌≡◌, ◌+◌, List, [], ◌∷◌, ◌++◌, take, sym, ap, subst, ◌∙◌}
use Rattle.std.proofs.lemmas.List.{take_more}
use Rattle.std.specs.Arc.{arc_value}
use Rattle.timing_defs.specs.declared.edits.Entry.{Entry}
use Rattle.session_engine.specs.Versions.{IsVersion}
use Rattle.session_engine.specs.Replaying.{IsReplayFault}
use Rattle.session_engine.proofs.ReplayLaws.{refused_step, handed_on}
use Rattle.session_engine.proofs.replaying.steps.Goals as goal

pub loop-entry-preserved : goal.loop-entry-preserved
loop-entry-preserved g c =
    record {
      at = ap (λ n. n + 1) c.loop-entry.invariant.at;
      origin = c.in_ok-held.ensures.next.origin ∙ c.loop-entry.invariant.origin;
      journal =
          c.in_ok-held.ensures.next.journal
          ∙ ap (λ (es : List Entry). es ++ c.entry-item.result ∷ []) c.loop-entry.invariant.journal
          ∙ ap (λ (x : Entry). take c.loop-entry.entry-index c.args.entries.now ++ x ∷ []) c.entry-item.is
          ∙ sym (take_more c.args.entries.now c.loop-entry.entry-index c.entry-item.result c.loop-entry-test.true);
    }

pub returns-in_err-held-clause-refused : goal.returns-in_err-held-clause-refused
returns-in_err-held-clause-refused g c =
    let same : c.deref.result.now ≡ arc_value c.loop-entry.held = search rules in
    handed_on c.from_residual.result c.in_err-held.field-0.0 (IsReplayFault (arc_value c.args.version).origin c.args.entries.now) c.from_residual.ensures.1
    (refused_step (arc_value c.args.version).origin c.args.entries.now c.loop-entry.entry-index c.entry-item.result (arc_value c.loop-entry.held)
    (subst IsVersion same c.laws.ensures) c.loop-entry.invariant.origin c.loop-entry.invariant.journal c.loop-entry-test.true c.entry-item.is
    c.loop-entry.place c.loop-entry.invariant.at c.in_err-held.field-0.0 c.in_err-held.ensures.refused)
