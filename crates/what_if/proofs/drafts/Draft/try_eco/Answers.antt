use Rattle.std.proofs.Common.{◌-◌, List, ◌∷◌, true, ap, subst, ◌∙◌}
use Rattle.timing_defs.specs.declared.design.Design.{Design}
use Rattle.timing_rules.specs.Cones.{IsCounted}
use Rattle.eco_analysis.specs.Counting.{tells}
use Rattle.eco_analysis.specs.Soundness.{IsRefusal}
use Rattle.what_if.specs.Layers.{OfLast}
use Rattle.what_if.proofs.drafts.Draft.try_eco.Goals as goal

pub returns-in-Ok-edited-clause-counted : goal.returns-in-Ok-edited-clause-counted
returns-in-Ok-edited-clause-counted g c =
    subst (λ (ds : List Design). OfLast ds (λ last. IsCounted last c.args.eco.now true (c.edited.new.steps - c.args.steps.now)))
    (ap (λ (ds : List Design). c.self.inside.store.now.design ∷ ds) c.in-Ok.ensures.items ∙ c.self.view_is)
    c.in-Ok-edited.ensures.counted

pub returns-in-Err-edited-clause-counted : goal.returns-in-Err-edited-clause-counted
returns-in-Err-edited-clause-counted g c =
    subst (λ (ds : List Design). OfLast ds (λ last. IsCounted last c.args.eco.now (tells c.in-Err-edited.fault) (c.edited.new.steps - c.args.steps.now)))
    (ap (λ (ds : List Design). c.self.inside.store.now.design ∷ ds) c.in-Ok.ensures.items ∙ c.self.view_is)
    c.in-Err-edited.ensures.counted

pub returns-in-Err-edited-clause-refused : goal.returns-in-Err-edited-clause-refused
returns-in-Err-edited-clause-refused g c =
    subst (λ (ds : List Design). OfLast ds (λ last. IsRefusal last c.args.eco.now c.in-Err-edited.fault))
    (ap (λ (ds : List Design). c.self.inside.store.now.design ∷ ds) c.in-Ok.ensures.items ∙ c.self.view_is)
    c.in-Err-edited.ensures.refused
