-- The delays along the arcs of a design, by the numbers of nodes.

use Rattle.std.specs.Prelude.{ℕ, ◌≡◌, ◌<◌, ◌-◌, ◌++◌, ℤ, true, false, List, [], map, length, take, replicate, find, get_or, Contains, Option, option_and_then, nat_eq, IfSome}
use Rattle.sta_units.specs.Numbers.{Within}
use Rattle.timing_defs.specs.declared.kinds.Split.{Split}
use Rattle.timing_defs.specs.declared.kinds.Split.TheVariants.{Early, Late}
use Rattle.timing_defs.specs.declared.design.Design.{Design}
use Rattle.timing_defs.specs.Netlist.{Node, nodes}
use Rattle.timing_rules.specs.Rows.{arcs_in, row, delay}
use Rattle.netlist_store.specs.Numbering.{Stored}
use Rattle.node_rows.specs.Evaluation.{is_row_within, is_wide_along}
use Rattle.pin_graph.specs.declared.arcs.GraphArc.{GraphArc}
use Rattle.pin_graph.specs.Nodes.{node_at, node_bound}
use Rattle.pin_graph.specs.Graphs.{Graphed, IsArc, fan_at}
use Rattle.arc_delays.specs.declared.tables.ArcDelay.{ArcDelay}

-- the delay from one node's number to another's
abbrev pub delay_numbered : Stored → Split → ℕ → ℕ → Option ℤ
delay_numbered s split from to =
    option_and_then (λ a. option_and_then (delay s.design split a) (node_at s to)) (node_at s from)

-- the delay of a split
abbrev pub delay_in : Split → ArcDelay → Option ℤ
delay_in Early d = d.early
delay_in Late d = d.late

-- what a table has of the arc from one node to another
abbrev pub delay_told : List (List ArcDelay) → Split → ℕ → ℕ → Option ℤ
delay_told t split from to = option_and_then (delay_in split) (find (λ (d : ArcDelay). nat_eq d.from from) (get_or t to []))

-- the delays of all arcs of a design, each within its limit
pub record AreDelays (s : Stored) (t : List (List ArcDelay)) : Type 0 where
  pub count : length t ≡ node_bound s
  pub each : (split : Split) (arc : GraphArc) → IsArc s arc → delay_told t split arc.from arc.to ≡ delay_numbered s split arc.from arc.to
  pub within : (split : Split) (arc : GraphArc) → IsArc s arc → IfSome (delay_numbered s split arc.from arc.to) Within

-- the delays of an arc in both splits
abbrev pub arc_delay : Stored → GraphArc → ArcDelay
arc_delay s arc =
    record { from = arc.from; early = delay_numbered s Early arc.from arc.to; late = delay_numbered s Late arc.from arc.to }

-- the delays of the arcs into a node
abbrev pub AreInto : Graphed → ℕ → List ArcDelay → Type 0
AreInto g node delays = delays ≡ map (arc_delay g.stored) (fan_at g.ins node)

-- a list has the delay of each arc into a node, in any order
abbrev pub AreDelaysAt : Stored → ℕ → List ArcDelay → Type 0
AreDelaysAt s node delays = (split : Split) (arc : GraphArc) → IsArc s arc → arc.to ≡ node
    → option_and_then (delay_in split) (find (λ (d : ArcDelay). nat_eq d.from arc.from) delays) ≡ delay_numbered s split arc.from arc.to

-- a list has those of each node
pub record AreAllInto (g : Graphed) (t : List (List ArcDelay)) : Type 0 where
  pub count : length t ≡ node_bound g.stored
  pub each : (node : ℕ) → node < node_bound g.stored → AreInto g node (get_or t node [])

-- the delays of that many nodes: of those that are there, then none
abbrev pub sized_delays : List (List ArcDelay) → ℕ → List (List ArcDelay)
sized_delays t count = take count t ++ replicate (count - length t) []

-- no row and no arc of a design has a quantity that leaves its limit
pub record AreWithin (d : Design) : Type 0 where
  pub rows : (n : Node) → Contains (nodes d) n → is_row_within (row d n) ≡ true
  pub arcs : (split : Split) (to from : Node) → Contains (nodes d) to → Contains (arcs_in d to) from → is_wide_along d split to from (row d from) ≡ false
