use Rattle.size_advice.proofs.TrialLaws.{refused_outcome}
use Rattle.size_advice.proofs.trials.outcome_after.Goals as goal

pub returns-in-Err : goal.returns-in-Err
returns-in-Err g c =
    refused_outcome c.args.base.now.store.now.design c.args.candidate.now c.args.eco.now c.requires c.in-Err.fault c.refused_outcome.result
    c.in-Err.ensures.refused c.refused_outcome.ensures.none c.refused_outcome.ensures.told
