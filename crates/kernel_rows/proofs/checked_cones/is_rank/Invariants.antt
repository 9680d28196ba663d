use Rattle.std.proofs.Common.{◌≡◌, ℕ, ◌<◌}
use Rattle.std.specs.Prelude.{slice_index}
use Rattle.kernel_rows.proofs.checked_cones.is_rank.Given as goal

abbrev pub invariant-loop-other : goal.invariant-loop-other
invariant-loop-other l = (n : ℕ) → n < l.other → slice_index l.ranks n ≡ slice_index l.ranks l.node → n ≡ l.node
