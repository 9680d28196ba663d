use Rattle.rc_tree.specs.Moments.{IsPassingUp}
use Rattle.rc_tree.proofs.sums.subtotals.Given as goal

abbrev pub invariant-loop-place : goal.invariant-loop-place
invariant-loop-place l = IsPassingUp l.rows l.initial.totals.items l.totals.items l.place

abbrev pub decreases-loop-place : goal.decreases-loop-place
decreases-loop-place l = l.place
