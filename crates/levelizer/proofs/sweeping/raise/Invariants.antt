use Rattle.std.proofs.Common.{◌≡◌, ℕ, ◌<◌, ◌==◌, take, get_or, length, max, cond}
use Rattle.std.specs.List.{list_any}
use Rattle.levelizer.proofs.sweeping.raise.Given as goal

abbrev pub invariant-loop-head : goal.invariant-loop-head
invariant-loop-head l =
    (m : ℕ) → m < length l.fn.levels → get_or l.levels m 0 ≡ cond (list_any (λ head. head == m) (take l.head-index l.heads)) (max (get_or l.fn.levels m 0) l.level) (get_or l.fn.levels m 0)
