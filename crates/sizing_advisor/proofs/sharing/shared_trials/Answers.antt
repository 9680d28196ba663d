use Rattle.std.proofs.Common.{subst}
use Rattle.timing_defs.specs.declared.reports.Candidate.{Candidate}
use Rattle.affected_cone.proofs.SearchLaws.{ok_more}
use Rattle.sizing_advisor.specs.Trying.{IsTrial}
use Rattle.sizing_advisor.proofs.SharedLaws.{trials_told}
use Rattle.sizing_advisor.proofs.sharing.shared_trials.Goals as goal

pub returns : goal.returns
returns g c =
    ok_more c.map_shared.result
    (λ trials told. trials_told c.args.base.now.store.now.design c.args.base.now.kind _ c.args.candidates.now trials
    (λ x t k. subst (λ (y : Candidate). IsTrial c.args.base.now.store.now.design c.args.base.now.kind y t) k.shows k.says.met) told)
    c.map_shared.ensures
