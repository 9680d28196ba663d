use Rattle.size_advice.proofs.ReportLaws.{report_told}
use Rattle.size_advice.proofs.advising.advice_report.Goals as goal

pub returns : goal.returns
returns g c =
    report_told c.args.store.now c.args.analysis.now.stored c.args.target.kind c.args.target.aim c.args.candidates.now c.as_slice.result.now
    c.as_slice-2.result.now c.in_ok-outcomes.outcomes c.as_slice-3.result.now c.slack_totals-now.result c.report_of.result c.requires.analysis
    c.as_slice.ensures c.as_slice-2.ensures c.as_slice-3.ensures c.slack_totals-now.ensures c.in_ok-outcomes.ensures c.requires.apart c.report_of.ensures
