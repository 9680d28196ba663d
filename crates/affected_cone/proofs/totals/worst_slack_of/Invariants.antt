use Rattle.std.proofs.Common.{◌≡◌, None, map, drop}
use Rattle.timing_rules.specs.Reports.{least_slack}
use Rattle.affected_cone.specs.Analysed.{slack_in}
use Rattle.affected_cone.proofs.totals.worst_slack_of.Given as goal

abbrev pub invariant-loop-end : goal.invariant-loop-end
invariant-loop-end l = least_slack l.best (map (slack_in l.kind) (drop l.end-index l.ends)) ≡ least_slack None (map (slack_in l.kind) l.ends)
