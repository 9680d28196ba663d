use Rattle.std.proofs.Common.{ℕ, ◌+◌, ◌<◌, ◌≤◌, length}
use Rattle.std.specs.Prelude.{All, slice_index}
use Rattle.worst_walks.specs.Walks.{listed_into, AreApart, IsArcInto}
use Rattle.kernel_rows.proofs.checked_cones.are_nodes.Given as goal

abbrev pub invariant-loop-node : goal.invariant-loop-node
invariant-loop-node l =
    record {
      rising : (n : ℕ) → n < l.node → slice_index l.cone.starts n ≤ slice_index l.cone.starts (n + 1);
      stored : (n : ℕ) → n < l.node → slice_index l.cone.starts (n + 1) ≤ length l.cone.arcs;
      arcs : (n : ℕ) → n < l.node → All (IsArcInto l.cone n) (listed_into l.cone n);
      apart : (n : ℕ) → n < l.node → AreApart (listed_into l.cone n);
    }
