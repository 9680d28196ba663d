use Rattle.std.proofs.Common.{◌-◌}
use Rattle.sizing_advisor.proofs.TrialLaws.{counted_with, refused_value, refused_counted}
use Rattle.sizing_advisor.proofs.trials.value_after.Goals as goal

pub returns-in-Ok-clause-counted : goal.returns-in-Ok-clause-counted
returns-in-Ok-clause-counted g c =
    counted_with c.args.base.now.store.now.design c.args.candidate.now c.args.eco.now c.requires (c.after_eco.new.steps - c.args.steps.now) c.in-Ok.ensures.counted

pub returns-in-Err-clause-value : goal.returns-in-Err-clause-value
returns-in-Err-clause-value g c =
    refused_value c.args.base.now.store.now.design c.args.candidate.now c.args.eco.now c.requires c.args.base.now.kind c.in-Err.fault c.value_refused.result
    c.in-Err.ensures.refused c.value_refused.ensures.none c.value_refused.ensures.told

pub returns-in-Err-clause-counted : goal.returns-in-Err-clause-counted
returns-in-Err-clause-counted g c =
    refused_counted c.args.base.now.store.now.design c.args.candidate.now c.args.eco.now c.requires c.in-Err.fault c.value_refused.result (c.after_eco.new.steps - c.args.steps.now)
    c.in-Err.ensures.counted c.value_refused.ensures.told
