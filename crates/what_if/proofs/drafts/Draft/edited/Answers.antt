use Rattle.std.proofs.Common.{◌-◌, true}
use Rattle.timing_rules.specs.Cones.{IsCounted}
use Rattle.eco_analysis.specs.Counting.{tells}
use Rattle.eco_analysis.specs.Soundness.{IsRefusal}
use Rattle.what_if.proofs.DraftLaws.{of_last}
use Rattle.what_if.proofs.drafts.Draft.edited.Goals as goal

pub returns-in-Ok-clause-counted : goal.returns-in-Ok-clause-counted
returns-in-Ok-clause-counted g c =
    of_last c.args.self.now c.shown-shown.result.store.now.design (λ last. IsCounted last c.args.eco.now true (c.after_eco.new.steps - c.args.steps.now))
    c.shown-shown.ensures.design c.in-Ok.ensures.counted

pub returns-in-Err-clause-counted : goal.returns-in-Err-clause-counted
returns-in-Err-clause-counted g c =
    of_last c.args.self.now c.shown-shown.result.store.now.design
    (λ last. IsCounted last c.args.eco.now (tells c.in-Err.fault) (c.after_eco.new.steps - c.args.steps.now))
    c.shown-shown.ensures.design c.in-Err.ensures.counted

pub returns-in-Err-clause-refused : goal.returns-in-Err-clause-refused
returns-in-Err-clause-refused g c =
    of_last c.args.self.now c.shown-shown.result.store.now.design (λ last. IsRefusal last c.args.eco.now c.in-Err.fault)
    c.shown-shown.ensures.design c.in-Err.ensures.refused
