use Rattle.std.proofs.Common.{◌≡◌, ◌-◌, List, length, Some, sym, subst, ◌∙◌}
use Rattle.std.specs.Prelude.{slice_get}
use Rattle.timing_defs.specs.declared.design.Design.{Design}
use Rattle.what_if.specs.Layers.{OfLast}
use Rattle.what_if.proofs.DraftLaws.{last_shown}
use Rattle.what_if.proofs.drafts.Draft.shown.Goals as goal

pub returns-in-Some-clause-design : goal.returns-in-Some-clause-design
returns-in-Some-clause-design c =
    subst (λ (ds : List Design). OfLast ds (λ last. c.shown.result.store.now.design ≡ last)) c.self.view_is
    (c.shown.ensures.design
    ∙ sym (last_shown c.self.inside.store.now.design c.self.inside.layers.items c.in-Some.layer.now
    (subst (λ (ls : List Design). Some c.in-Some.layer.now ≡ slice_get ls (length ls - 1)) c.as_slice.ensures.value c.in-Some.ensures.value)))
