use Rattle.std.proofs.Common.{◌≡◌, ℕ, ◌<◌, get_or}
use Rattle.pin_graph.specs.NodeArcs.{none_arc}
use Rattle.pin_graph.proofs.relinking.place_of.Given as goal

abbrev pub invariant-loop-place : goal.invariant-loop-place
invariant-loop-place l = (k : ℕ) → k < l.place → (get_or l.arcs k none_arc).from ≡ l.from → ⊥
