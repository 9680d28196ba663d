use Rattle.std.proofs.Common.{◌≡◌, pos, map, drop}
use Rattle.affected_cone.specs.Analysed.{slack_in}
use Rattle.affected_cone.specs.Floors.{floored}
use Rattle.affected_cone.proofs.totals.negative_total.Given as goal

abbrev pub invariant-loop-end : goal.invariant-loop-end
invariant-loop-end l = floored l.total (map (slack_in l.kind) (drop l.end-index l.ends)) ≡ floored (pos 0) (map (slack_in l.kind) l.ends)
