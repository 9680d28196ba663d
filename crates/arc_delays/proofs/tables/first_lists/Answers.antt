use Rattle.std.proofs.Common.{rules, List, ◌++◌, ◌∷◌, [], take, ap, sym, ◌∙◌}
use Rattle.std.proofs.lemmas.List.{take_more}
use Rattle.std.proofs.lemmas.Option.{get_or_from_slice_get}
use Rattle.arc_delays.specs.declared.tables.ArcDelay.{ArcDelay}
use Rattle.arc_delays.proofs.tables.first_lists.Goals as goal

pub loop-at-preserved : goal.loop-at-preserved
loop-at-preserved c =
    c.in_ok-push.ensures.ok
    ∙ ap (λ xs. xs ++ c.in_ok-share.field-0 ∷ []) c.loop-at.invariant
    ∙ ap (λ (x : List ArcDelay). take c.loop-at.at c.args.table.now ++ x ∷ [])
    (c.in_ok-share.ensures ∙ sym (get_or_from_slice_get c.args.table.now c.loop-at.at c.get.result.now c.get.result.now c.get.ensures))
    ∙ sym (take_more c.args.table.now c.loop-at.at c.get.result.now (search rules))
