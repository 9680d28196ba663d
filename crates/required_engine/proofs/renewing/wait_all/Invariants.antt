use Rattle.std.proofs.Common.{ℕ, ◌≡◌, ◌||◌, take}
use Rattle.level_cone.specs.Waiting.{waits}
use Rattle.level_cone.specs.Cone.{stands_in}
use Rattle.required_engine.specs.Updated.{top_level}
use Rattle.required_engine.proofs.renewing.wait_all.Given as goal

abbrev pub invariant-loop-node : goal.invariant-loop-node
invariant-loop-node l = (k n : ℕ) → waits l.queue k n ≡ (waits l.fn.queue k n || stands_in (top_level l.graph) (take l.node-index l.nodes) k n)
