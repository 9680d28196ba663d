use Rattle.std.proofs.Common.{sym, subst, refl}
use Rattle.timing_defs.specs.declared.closing.ClosingQuery.TheVariants.{Summary}
use Rattle.timing_defs.specs.declared.closing.ClosingReport.TheVariants.{Summary as summary_report}
use Rattle.netlist_store.specs.Numbering.{Stored}
use Rattle.further_answers.specs.Answers.{IsAnswer}
use Rattle.further_answers.proofs.closing.totals_by_clock.Goals as goal

pub returns-clause-told : goal.returns-clause-told
returns-clause-told c =
    subst (λ (s : Stored). IsAnswer s.design (Summary c.args.kind) (summary_report c.in_ok-report.report)) (sym c.requires)
    (refl, (c.in_ok-report.report, c.in_ok-report.ensures, refl))
