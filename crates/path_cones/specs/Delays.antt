-- The delays along the arcs of a cone, by the numbers of nodes.

use Rattle.std.specs.Prelude.{ℕ, ℤ, pos, ◌-ℤ◌, if◌then◌else◌, List, Option, None, option_map, option_and_then, position, nat_eq, slice_index}
use Rattle.std.specs.List.{filter_map}
use Rattle.timing_defs.specs.declared.kinds.Kind.{Kind}
use Rattle.timing_defs.specs.declared.kinds.Kind.TheVariants.{Setup, Hold}
use Rattle.timing_defs.specs.declared.kinds.Split.{Split}
use Rattle.timing_defs.specs.Netlist.{nodes}
use Rattle.timing_rules.specs.Rows.{delay}
use Rattle.timing_rules.specs.Paths.{arc_delay}
use Rattle.timing_defs.specs.Kinds.{data_split}
use Rattle.netlist_store.specs.Numbering.{Stored}
use Rattle.pin_graph.specs.declared.arcs.GraphArc.{GraphArc}
use Rattle.pin_graph.specs.Nodes.{node_at}
use Rattle.pin_graph.specs.Graphs.{Graphed, network_at}
use Rattle.worst_walks.specs.declared.cones.WalkArc.{WalkArc}
use Rattle.arc_delays.specs.Delays.{delay_numbered}
use Rattle.path_cones.specs.Reaching.{followed}

-- the delay of the arc from one node's number to another's, where there is one
abbrev pub arc_numbered : Stored → Split → ℕ → ℕ → Option ℤ
arc_numbered s split from to =
    option_and_then (λ a. option_and_then (arc_delay s.design split a) (node_at s to)) (node_at s from)

-- delays add up against setup tests, and with their signs turned against hold tests
abbrev pub signed : Kind → ℤ → ℤ
signed Setup delay = delay
signed Hold delay = pos 0 -ℤ delay

-- the delay of the arc that a walk follows from one node to another
abbrev pub followed_delay : Graphed → Kind → ℕ → ℕ → Option ℤ
followed_delay g kind from to =
    (if network_at g to then None else option_map (signed kind) (arc_numbered g.stored (data_split kind) from to))

-- an arc of the graph that has a delay, by the places of nodes in a list
abbrev pub walk_arc : Stored → Kind → List ℕ → GraphArc → Option WalkArc
walk_arc s kind nodes arc =
    option_and_then (λ delay. option_map (λ place. record { from = place; delay = signed kind delay }) (position (λ n. nat_eq arc.from n) nodes))
    (delay_numbered s (data_split kind) arc.from arc.to)

abbrev pub walk_arcs : Graphed → Kind → List ℕ → ℕ → List WalkArc
walk_arcs g kind nodes node = filter_map (walk_arc g.stored kind nodes) (followed g node)

-- the arcs into the node at a place
abbrev pub arcs_placed : Graphed → Kind → List ℕ → ℕ → List WalkArc
arcs_placed g kind nodes n = walk_arcs g kind nodes (slice_index nodes n)
