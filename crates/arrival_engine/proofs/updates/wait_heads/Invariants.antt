use Rattle.std.proofs.Common.{ℕ, ◌≡◌, ◌==◌, ◌&&◌, ◌||◌, take}
use Rattle.std.specs.List.{list_any}
use Rattle.level_cone.specs.Waiting.{waits}
use Rattle.pin_graph.specs.declared.arcs.GraphArc.{GraphArc}
use Rattle.pin_graph.specs.Graphs.{level_at}
use Rattle.arrival_engine.proofs.updates.wait_heads.Given as goal

abbrev pub invariant-loop-arc : goal.invariant-loop-arc
invariant-loop-arc l = (k n : ℕ) → waits l.waiting k n
    ≡ (waits l.fn.waiting k n || list_any (λ (a : GraphArc). (level_at l.graph a.to == k) && (a.to == n)) (take l.arc-index l.arcs))
