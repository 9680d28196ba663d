use Rattle.std.proofs.Common.{ℕ, ◌≡◌, ◌||◌, take}
use Rattle.level_cone.specs.Waiting.{waits}
use Rattle.required_engine.specs.Updated.{tails_of_changed}
use Rattle.required_engine.proofs.renewing.wait_before_all.Given as goal

abbrev pub invariant-loop-node : goal.invariant-loop-node
invariant-loop-node l = (k n : ℕ) → waits l.queue k n ≡ (waits l.fn.queue k n || tails_of_changed l.graph l.before l.rows (take l.node-index l.nodes) k n)
