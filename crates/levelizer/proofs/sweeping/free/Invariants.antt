use Rattle.std.proofs.Common.{◌≡◌, ℕ, ◌+◌, ◌≤◌, ◌==◌, take, get_or, length, count_by}
use Rattle.levelizer.specs.Sweep.{freed}
use Rattle.levelizer.proofs.sweeping.free.Given as goal

abbrev pub invariant-loop-head : goal.invariant-loop-head
invariant-loop-head l = record {
  taken : (m : ℕ) → get_or l.waiting m 0 + count_by (λ head. head == m) (take l.head-index l.heads) ≡ get_or l.fn.waiting m 0;
  queued : (m : ℕ) → count_by (λ x. x == m) l.queue ≡ count_by (λ x. x == m) l.fn.queue + freed (get_or l.fn.waiting m 0) (get_or l.waiting m 0);
  kept : take (length l.fn.queue) l.queue ≡ l.fn.queue;
  grown : length l.fn.queue ≤ length l.queue;
}
