use Rattle.std.proofs.Common.{ℕ, ◌<◌, slice_index_or}
use Rattle.worst_walks.specs.declared.cones.WalkArc.{WalkArc}
use Rattle.bounded_slack.specs.Nets.{IsArcInto, IsFalling}
use Rattle.kernel_rows.specs.WrittenNets.{net_of}
use Rattle.kernel_rows.proofs.written_nets.are_arcs.Given as goal

abbrev pub invariant-loop-arc : goal.invariant-loop-arc
invariant-loop-arc l =
    record {
      into : (k : ℕ) (d : WalkArc) → k < l.arc-index → IsArcInto (net_of l.fan) l.node (slice_index_or l.arcs k d);
      falling : (k : ℕ) (d : WalkArc) → k < l.arc-index → IsFalling (net_of l.fan) l.node (slice_index_or l.arcs k d);
    }
