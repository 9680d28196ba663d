use Rattle.std.proofs.Common.{ℕ, List, subst, refl}
use Rattle.timing_defs.specs.declared.closing.ClosingQuery.TheVariants.{AdviseSizes}
use Rattle.timing_defs.specs.declared.closing.ClosingReport.TheVariants.{Advices}
use Rattle.further_answers.specs.Answers.{IsAnswer}
use Rattle.further_answers.proofs.closing.advised_sizes.Goals as goal

pub returns-clause-told : goal.returns-clause-told
returns-clause-told g c =
    subst (λ (insts : List (List ℕ)). IsAnswer c.args.store.now.design (AdviseSizes c.args.target.kind c.args.target.aim insts) (Advices c.in_ok-report.report))
    c.as_slice.ensures (c.in_ok-report.ensures.there, (c.in_ok-report.report, c.in_ok-report.ensures.report, refl))
