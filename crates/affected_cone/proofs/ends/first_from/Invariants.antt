use Rattle.std.proofs.Common.{◌-◌}
use Rattle.affected_cone.specs.Rising.{AreBounds}
use Rattle.affected_cone.proofs.ends.first_from.Given as goal

abbrev pub invariant-loop-low : goal.invariant-loop-low
invariant-loop-low l = AreBounds l.ends l.pin l.low l.high

abbrev pub decreases-loop-low : goal.decreases-loop-low
decreases-loop-low l = l.high - l.low
