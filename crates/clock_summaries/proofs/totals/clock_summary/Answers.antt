use Rattle.std.proofs.Common.{ap, ◌∙◌}
use Rattle.timing_rules.specs.Rows.{as_fs}
use Rattle.clock_summaries.proofs.TotalLaws.{row_told}
use Rattle.clock_summaries.proofs.totals.clock_summary.Goals as goal

pub returns : goal.returns
returns c =
    row_told c.args.clock c.args.captured.now c.tested_count.result c.failing_count.result c.as_fs.result c.total_slack.result c.tested_count.ensures c.failing_count.ensures
    (c.as_fs.ensures ∙ ap as_fs c.least_slack.ensures) c.total_slack.ensures
