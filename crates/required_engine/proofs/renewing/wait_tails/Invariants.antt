use Rattle.std.proofs.Common.{ℕ, ◌≡◌, ◌||◌, take}
use Rattle.level_cone.specs.Waiting.{waits}
use Rattle.required_engine.specs.Updated.{tails_stand}
use Rattle.required_engine.proofs.renewing.wait_tails.Given as goal

abbrev pub invariant-loop-arc : goal.invariant-loop-arc
invariant-loop-arc l = (k n : ℕ) → waits l.queue k n ≡ (waits l.fn.queue k n || tails_stand l.graph (take l.arc-index l.arcs) k n)
