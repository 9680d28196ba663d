use Rattle.std.proofs.Common.{subst}
use Rattle.timing_defs.specs.declared.reports.Candidate.{Candidate}
use Rattle.affected_cone.proofs.SearchLaws.{ok_more}
use Rattle.timing_rules.specs.SizeAdvice.{IsOutcome}
use Rattle.size_advice.proofs.TrialLaws.{outcomes_told}
use Rattle.size_advice.proofs.outcomes.outcomes_shared.Goals as goal

pub returns : goal.returns
returns g c =
    ok_more c.map_shared.result
    (λ outcomes told. outcomes_told c.args.base.now.store.now.design _ c.args.candidates.now outcomes
    (λ x o k. subst (λ (y : Candidate). IsOutcome c.args.base.now.store.now.design y o) k.shows k.says.met) told)
    c.map_shared.ensures
