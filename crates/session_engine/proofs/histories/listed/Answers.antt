use Rattle.std.proofs.Common.{rules, ◌++◌, ◌∷◌, [], take, ap, sym, ◌∙◌}
use Rattle.std.proofs.lemmas.List.{take_more}
use Rattle.std.proofs.lemmas.Option.{get_or_from_slice_get}
use Rattle.timing_defs.specs.declared.edits.Entry.{Entry}
use Rattle.session_engine.proofs.histories.listed.Goals as goal

pub loop-at-preserved : goal.loop-at-preserved
loop-at-preserved c =
    c.in_ok-push.ensures.ok
    ∙ ap (λ xs. xs ++ c.in_ok-again.field-0 ∷ []) c.loop-at.invariant
    ∙ ap (λ (x : Entry). take c.loop-at.at c.args.journal.now ++ x ∷ []) (c.in_ok-again.ensures ∙ sym (get_or_from_slice_get c.args.journal.now c.loop-at.at c.get.result.now c.get.result.now c.get.ensures))
    ∙ sym (take_more c.args.journal.now c.loop-at.at c.get.result.now (search rules))
