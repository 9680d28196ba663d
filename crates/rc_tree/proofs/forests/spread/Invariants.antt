use Rattle.std.proofs.Common.{length, ◌-◌}
use Rattle.rc_tree.proofs.Growing.{IsSpreading}
use Rattle.rc_tree.proofs.forests.spread.Given as goal

abbrev pub invariant-loop-place : goal.invariant-loop-place
invariant-loop-place l = IsSpreading l.segments (length l.initial.all.places.items) l.place l.first l.initial.all l.all

abbrev pub decreases-loop-place : goal.decreases-loop-place
decreases-loop-place l = length l.initial.all.places.items - l.place
