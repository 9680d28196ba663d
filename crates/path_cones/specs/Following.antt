-- The arcs that are followed into one node, by the numbers of nodes.

use Rattle.std.specs.Prelude.{ℕ, ◌≡◌, ◌<◌, ℤ, List, All, Option, option_map}
use Rattle.std.specs.List.{filter_map}
use Rattle.sta_units.specs.Numbers.{Within}
use Rattle.timing_defs.specs.declared.kinds.Kind.{Kind}
use Rattle.timing_defs.specs.Kinds.{data_split}
use Rattle.netlist_store.specs.Numbering.{Stored}
use Rattle.pin_graph.specs.declared.arcs.GraphArc.{GraphArc}
use Rattle.pin_graph.specs.Nodes.{node_bound}
use Rattle.pin_graph.specs.Graphs.{Graphed, level_at}
use Rattle.worst_walks.specs.declared.cones.WalkArc.{WalkArc}
use Rattle.worst_walks.specs.Walks.{delay_in, AreApart}
use Rattle.arc_delays.specs.Delays.{delay_numbered}
use Rattle.path_cones.specs.Reaching.{followed}
use Rattle.path_cones.specs.Delays.{signed, followed_delay}

-- an arc of the graph that has a delay, by the number of the node from which it leads
abbrev pub numbered_arc : Stored → Kind → GraphArc → Option WalkArc
numbered_arc s kind arc =
    option_map (λ delay. record { from = arc.from; delay = signed kind delay }) (delay_numbered s (data_split kind) arc.from arc.to)

-- the arcs that a walk follows into a node
abbrev pub arcs_followed : Graphed → Kind → ℕ → List WalkArc
arcs_followed g kind n = filter_map (numbered_arc g.stored kind) (followed g n)

-- an arc into a node leads from a node of a lower level, with a delay within its limit
abbrev pub IsFromBelow : Graphed → ℕ → WalkArc → Type 0
IsFromBelow g n arc = (level_at g arc.from < level_at g n) × (arc.from < node_bound g.stored) × Within arc.delay

-- at most one arc from each node, with the delays of the definition
pub record AreFollowed (g : Graphed) (kind : Kind) (n : ℕ) (arcs : List WalkArc) : Type 0 where
  pub below : All (IsFromBelow g n) arcs
  pub apart : AreApart arcs
  pub delays : (a : ℕ) → delay_in arcs a ≡ followed_delay g kind a n
