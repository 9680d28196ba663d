use Rattle.std.proofs.Common.{ℕ, ◌≡◌, ◌<◌, ◌*◌, length}
use Rattle.rc_tree.specs.Moments.{weight_at}
use Rattle.rc_tree.proofs.wires.times.Given as goal

abbrev pub invariant-loop-place : goal.invariant-loop-place
invariant-loop-place l = (length l.products.items ≡ l.place) × ((i : ℕ) → i < l.place → weight_at l.products.items i ≡ weight_at l.weights i * weight_at l.delays i)
