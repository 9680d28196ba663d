use Rattle.std.proofs.Common.{◌≡◌, ℕ, ◌==◌, ◌&&◌, get_or, cond, count_by}
use Rattle.std.specs.Prelude.{nat_lt}
use Rattle.levelizer.proofs.sweeping.ready.Given as goal

abbrev pub invariant-loop-node : goal.invariant-loop-node
invariant-loop-node l = (m : ℕ) → count_by (λ x. x == m) l.queue ≡ cond (nat_lt m l.node && (get_or l.waiting m 0 == 0)) 1 0
