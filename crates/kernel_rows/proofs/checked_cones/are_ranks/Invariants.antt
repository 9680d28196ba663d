use Rattle.std.proofs.Common.{◌≡◌, ℕ, ◌<◌}
use Rattle.std.specs.Prelude.{slice_index}
use Rattle.kernel_rows.proofs.checked_cones.are_ranks.Given as goal

abbrev pub invariant-loop-node : goal.invariant-loop-node
invariant-loop-node l = (a b : ℕ) → a < l.node → b < l.node → slice_index l.ranks a ≡ slice_index l.ranks b → a ≡ b
