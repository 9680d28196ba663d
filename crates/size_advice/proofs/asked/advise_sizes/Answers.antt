use Rattle.std.proofs.Common.{List, subst}
use Rattle.timing_defs.specs.declared.reports.Candidate.{Candidate}
use Rattle.timing_rules.specs.SizeAdvice.{IsAdviceReport}
use Rattle.size_advice.proofs.asked.advise_sizes.Goals as goal

pub returns-clause-report : goal.returns-clause-report
returns-clause-report g c =
    subst (λ (cs : List Candidate). IsAdviceReport c.args.store.now.design c.args.target.kind c.args.target.aim cs c.in_ok-report.field-0)
    c.in_ok-sizes.ensures.value c.in_ok-report.ensures
