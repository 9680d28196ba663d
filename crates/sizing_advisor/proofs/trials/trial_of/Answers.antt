use Rattle.sizing_advisor.proofs.TrialLaws.{trial_over}
use Rattle.sizing_advisor.proofs.trials.trial_of.Goals as goal

pub returns : goal.returns
returns g c =
    trial_over c.alone-alone.result.store.now c.args.base.now.store.now c.alone-alone.result.kind c.args.base.now.kind c.args.candidate.now c.in_ok-value.value
    c.none-steps.result c.value_of.new.steps c.alone-alone.ensures.store c.alone-alone.ensures.kind c.none-steps.ensures c.in_ok-value.ensures.value
    c.in_ok-value.ensures.counted
