use Rattle.std.proofs.Common.{sym, subst, refl}
use Rattle.timing_defs.specs.declared.closing.ClosingQuery.TheVariants.{Failing}
use Rattle.timing_defs.specs.declared.closing.ClosingReport.TheVariants.{Failing as failing_report}
use Rattle.netlist_store.specs.Numbering.{Stored}
use Rattle.further_answers.specs.Answers.{IsAnswer}
use Rattle.further_answers.proofs.closing.failing_endpoints.Goals as goal

pub returns-clause-told : goal.returns-clause-told
returns-clause-told c =
    subst (λ (s : Stored). IsAnswer s.design (Failing c.args.kind) (failing_report c.in_ok-report.report)) (sym c.requires)
    (refl, (c.in_ok-report.report, c.in_ok-report.ensures, refl))
