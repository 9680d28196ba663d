use Rattle.std.proofs.Common.{◌≡◌, pos, map, drop}
use Rattle.timing_rules.specs.Summaries.{slack_under}
use Rattle.affected_cone.specs.Floors.{floored}
use Rattle.clock_summaries.proofs.totals.negative_total.Given as goal

abbrev pub invariant-loop-one : goal.invariant-loop-one
invariant-loop-one l = floored l.total (map (slack_under l.clock) (drop l.one-index l.captured)) ≡ floored (pos 0) (map (slack_under l.clock) l.captured)
