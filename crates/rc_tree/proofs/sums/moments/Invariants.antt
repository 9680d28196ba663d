use Rattle.rc_tree.specs.Moments.{IsPassingDown}
use Rattle.rc_tree.proofs.sums.moments.Given as goal

abbrev pub invariant-loop-place : goal.invariant-loop-place
invariant-loop-place l = IsPassingDown l.rows l.fn.weights.items l.moments l.place
