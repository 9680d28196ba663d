use Rattle.std.proofs.Common.{◌≤◌, length}
use Rattle.timing_defs.proofs.SameBytes.{AreSameFrom}
use Rattle.timing_defs.proofs.names.are_same.Given as goal

abbrev pub invariant-loop-left : goal.invariant-loop-left
invariant-loop-left l = (l.left ≤ length l.a) × AreSameFrom l.left l.a l.b

abbrev pub decreases-loop-left : goal.decreases-loop-left
decreases-loop-left l = l.left
