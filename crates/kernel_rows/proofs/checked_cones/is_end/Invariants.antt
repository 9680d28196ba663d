use Rattle.std.proofs.Common.{ℕ, ◌<◌, slice_index_or}
use Rattle.worst_walks.specs.declared.cones.Launch.{Launch}
use Rattle.worst_walks.specs.Walks.{IsLaunch}
use Rattle.kernel_rows.proofs.checked_cones.is_end.Given as goal

abbrev pub invariant-loop-launch : goal.invariant-loop-launch
invariant-loop-launch l = (k : ℕ) (d : Launch) → k < l.launch-index → IsLaunch l.cone (slice_index_or l.launch-items k d)
