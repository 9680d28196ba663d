use Rattle.std.proofs.Common.{ℕ, ◌<◌, slice_index_or}
use Rattle.worst_walks.specs.declared.cones.WalkEnd.{WalkEnd}
use Rattle.worst_walks.specs.Walks.{IsEnd}
use Rattle.kernel_rows.proofs.checked_cones.are_ends.Given as goal

abbrev pub invariant-loop-end : goal.invariant-loop-end
invariant-loop-end l = (k : ℕ) (d : WalkEnd) → k < l.end-index → IsEnd l.cone (slice_index_or l.end-items k d)
