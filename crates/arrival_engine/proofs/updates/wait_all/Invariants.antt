use Rattle.std.proofs.Common.{ℕ, ◌≡◌, ◌||◌, take}
use Rattle.level_cone.specs.Waiting.{waits}
use Rattle.level_cone.specs.Cone.{stands_in}
use Rattle.pin_graph.specs.Graphs.{level_at}
use Rattle.arrival_engine.proofs.updates.wait_all.Given as goal

abbrev pub invariant-loop-node : goal.invariant-loop-node
invariant-loop-node l = (k n : ℕ) → waits l.waiting k n ≡ (waits l.fn.waiting k n || stands_in (level_at l.graph) (take l.node-index l.nodes) k n)
