use Rattle.std.proofs.Common.{ℕ, ◌≡◌, ◌||◌, take}
use Rattle.std.specs.List.{list_any}
use Rattle.required_engine.specs.Updated.{is_in, is_tail}
use Rattle.required_engine.proofs.first_nodes.add_tails.Given as goal

abbrev pub invariant-loop-arc : goal.invariant-loop-arc
invariant-loop-arc l = (n : ℕ) → is_in l.nodes n ≡ (is_in l.initial.nodes n || list_any (is_tail l.graph.stored n) (take l.arc-index l.arcs))
