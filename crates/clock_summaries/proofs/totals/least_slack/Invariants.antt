use Rattle.std.proofs.Common.{◌≡◌, None, map, drop}
use Rattle.timing_rules.specs.Reports.{least_slack}
use Rattle.timing_rules.specs.Summaries.{slack_under}
use Rattle.clock_summaries.proofs.totals.least_slack.Given as goal

abbrev pub invariant-loop-one : goal.invariant-loop-one
invariant-loop-one l = least_slack l.best (map (slack_under l.clock) (drop l.one-index l.captured)) ≡ least_slack None (map (slack_under l.clock) l.captured)
