use Rattle.std.proofs.Common.{not, count_by}
use Rattle.levelizer.proofs.Walks.{IsWalkedBack}
use Rattle.levelizer.proofs.cycles.cycle_from.Given as goal

abbrev pub invariant-loop-marks : goal.invariant-loop-marks
invariant-loop-marks l = IsWalkedBack l.arcs l.waiting l.marks.items l.walk l.at

abbrev pub decreases-loop-marks : goal.decreases-loop-marks
decreases-loop-marks l = count_by not l.marks.items
