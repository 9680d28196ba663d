use Rattle.std.proofs.Common.{ℕ, ◌<◌, slice_index_or}
use Rattle.worst_walks.specs.declared.cones.WalkArc.{WalkArc}
use Rattle.worst_walks.specs.Walks.{IsArcInto}
use Rattle.kernel_rows.proofs.checked_cones.are_arcs_into.Given as goal

abbrev pub invariant-loop-arc : goal.invariant-loop-arc
invariant-loop-arc l = (k : ℕ) (d : WalkArc) → k < l.arc-index → IsArcInto l.cone l.node (slice_index_or l.arcs k d)
