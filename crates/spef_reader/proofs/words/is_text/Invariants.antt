use Rattle.std.proofs.Common.{◌≤◌, length}
use Rattle.timing_defs.proofs.SameBytes.{AreSameFrom}
use Rattle.spef_reader.proofs.words.is_text.Given as goal

abbrev pub invariant-loop-left : goal.invariant-loop-left
invariant-loop-left l = (l.left ≤ length l.word) × AreSameFrom l.left l.word l.text

abbrev pub decreases-loop-left : goal.decreases-loop-left
decreases-loop-left l = l.left
