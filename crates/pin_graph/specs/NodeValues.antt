-- What the arcs into a node give it: its level.

use Rattle.std.specs.Prelude.{ℕ, ◌+◌, ◌*◌, ◌≤◌, List, map, length, slice_index}
use Rattle.levelizer.specs.Levels.{greatest}
use Rattle.pin_graph.specs.declared.arcs.GraphArc.{GraphArc}
use Rattle.pin_graph.specs.declared.held_fans.Fans.{Fans}
use Rattle.pin_graph.specs.Graphs.{fan_at, to_of, IsFans}
use Rattle.pin_graph.specs.Kept.{AreTurned}

-- one more than the greatest level from which some arcs lead, 0 of none
abbrev pub level_behind : List ℕ → List GraphArc → ℕ
level_behind levels arcs = greatest (map (λ arc. slice_index levels arc.from + 1) arcs)

abbrev pub node_level : Fans → List ℕ → ℕ → ℕ
node_level ins levels node = level_behind levels (fan_at ins node)

abbrev pub nodes_behind : Fans → ℕ → List ℕ
nodes_behind outs node = map to_of (fan_at outs node)

-- the arcs into nodes, and the same out of nodes; levels of the nodes' pins
pub record AreOpposite (n : ℕ) (ins outs : Fans) (pin_levels : List ℕ) : Type 0 where
  pub in_fan : IsFans n ins
  pub out_fan : IsFans n outs
  pub turned : AreTurned n (fan_at ins) (fan_at outs)
  pub levels : n ≤ 2 * length pin_levels
