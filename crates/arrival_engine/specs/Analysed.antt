-- An analysis of slews and arrivals: the rows of nodes by their numbers, over the tables of wires and of
-- ports that they are evaluated with (graph-based analysis as in OpenTimer; own rule of range).

use Rattle.std.specs.Prelude.{ℕ, ◌≡◌, ◌<◌, ◌-◌, ◌++◌, ⊤, true, false, if◌then◌else◌, List, [], ◌∷◌, take, replicate, length, get_or, slice_get, Contains, Option, Some, None, option_map, Result, Ok, Err}
use Rattle.std.specs.Arc.{arc_value}
use Rattle.timing_defs.specs.declared.kinds.Split.{Split}
use Rattle.timing_defs.specs.declared.kinds.Tran.{Tran}
use Rattle.timing_defs.specs.declared.design.Design.{Design}
use Rattle.timing_defs.specs.declared.rows.NodeRow.{NodeRow}
use Rattle.timing_defs.specs.declared.faults.Fault.{Fault}
use Rattle.timing_defs.specs.declared.faults.Fault.TheVariants.{OutOfRange, Memory as no_room}
use Rattle.timing_defs.specs.declared.faults.Place.TheVariants.{Pin as at_pin}
use Rattle.timing_defs.specs.Netlist.{Node}
use Rattle.timing_rules.specs.Rows.{launch_edges, empty_row}
use Rattle.timing_rules.specs.Range.{is_origin, fine_slew, fine_arrival, is_forward_origin}
use Rattle.netlist_store.specs.Numbering.{Stored, name_at, is_number}
use Rattle.node_rows.specs.declared.delays.BothDelays.{BothDelays}
use Rattle.node_rows.specs.declared.settings.NodeAt.{NodeAt}
use Rattle.node_rows.specs.declared.settings.Before.{Before}
use Rattle.node_rows.specs.declared.settings.Setting.{Setting}
use Rattle.node_rows.specs.Evaluation.{IsSetting}
use Rattle.node_rows.specs.WireTables.{AreWires}
use Rattle.node_rows.specs.PortTables.{ArePorts}
use Rattle.node_rows.specs.NetTrees.{is_wide_net}
use Rattle.pin_graph.specs.declared.arcs.GraphArc.{GraphArc}
use Rattle.pin_graph.specs.Nodes.{node_at, node_bound, pin_under, tran_under}
use Rattle.pin_graph.specs.Graphs.{Graphed, fan_at, level_at, network_at}
use Rattle.pin_graph.specs.RowTables.{row_numbered, IsRangeFault}
use Rattle.arc_delays.specs.declared.tables.ArcDelay.{ArcDelay}
use Rattle.arc_delays.specs.Delays.{AreInto}
use Rattle.arrival_engine.specs.declared.nodes.NodeAnswer.{NodeAnswer}
use Rattle.arrival_engine.specs.declared.passes.Counted.{Counted}
use Rattle.arrival_engine.specs.declared.tables.Arrivals.{Arrivals}

-- the tables of an analysis are those of the store, and no quantity of a net leaves its limit
pub record AreTables (s : Stored) (a : Arrivals) : Type 0 where
  pub wires : AreWires s (arc_value a.wires)
  pub ports : ArePorts s.design.constraints (arc_value a.ports)
  pub fine : (net : ℕ) → is_wide_net s net ≡ false

-- the slew and the arrivals of a node have values within their limits, and no quantity that they bring leaves its limit
pub record IsFineNode (d : Design) (node : Node) : Type 0 where
  pub slew : (split : Split) → fine_slew d split node ≡ true
  pub arrivals : (split : Split) (edge : ℕ × Tran) → Contains (launch_edges d) edge → fine_arrival d split edge node ≡ true
  pub origins : (split : Split) → is_forward_origin d split node ≡ false

-- the row of a node's number, of a node that is fine
pub record IsNodeRow (s : Stored) (node : ℕ) (told : NodeRow) : Type 0 where
  pub row : told ≡ row_numbered s node
  pub fine : (n : Node) → node_at s node ≡ Some n → IsFineNode s.design n

-- a node is refused at its pin, which is an origin of an overflow; want of memory is free
abbrev pub IsNodeFault : Stored → ℕ → Fault → Type 0
IsNodeFault s node (OutOfRange place) = (Some place ≡ option_map at_pin (name_at s.pins (pin_under node))) × (is_origin s.design place ≡ true)
IsNodeFault s node no_room = ⊤
IsNodeFault s node other = ⊥

-- the row of a number is the definition's, and its node is fine
pub record IsDone (s : Stored) (rows : List NodeRow) (node : ℕ) : Type 0 where
  pub row : slice_get rows node ≡ Some (row_numbered s node)
  pub fine : (n : Node) → node_at s node ≡ Some n → IsFineNode s.design n

-- the rows of the nodes before a node are the definition's, and these nodes are fine
pub record AreReady (g : Graphed) (rows : List NodeRow) (node : ℕ) : Type 0 where
  pub before : (arc : GraphArc) → Contains (fan_at g.ins node) arc → IsDone g.stored rows arc.from

-- the rows below a level are the definition's, and their nodes are fine
pub record AreDoneBelow (g : Graphed) (rows : List NodeRow) (level : ℕ) : Type 0 where
  pub count : length rows ≡ node_bound g.stored
  pub done : (node : ℕ) → node < node_bound g.stored → level_at g node < level → IsDone g.stored rows node

-- the delays of the arcs into the nodes below a level are the definition's
pub record AreDelayedBelow (g : Graphed) (delays : List (List ArcDelay)) (level : ℕ) : Type 0 where
  pub count : length delays ≡ node_bound g.stored
  pub done : (node : ℕ) → node < node_bound g.stored → level_at g node < level → AreInto g node (get_or delays node [])

-- a store with its tables, in which no net is too large, and its graph
pub record IsPlan (setting : Setting) (g : Graphed) : Type 0 where
  pub tables : IsSetting setting
  pub nets : (net : ℕ) → is_wide_net setting.store.now net ≡ false
  pub same : g.stored ≡ setting.store.now

-- a node by its pin's number; none of a gap
abbrev pub place_told : Graphed → ℕ → Option NodeAt
place_told g node =
    (if is_number g.stored.pins (pin_under node)
    then Some (record { pin = pin_under node; tran = tran_under node; network = network_at g node }) else None)

-- a node from which an arc leads, with its row
pub record IsBefore (g : Graphed) (rows : List NodeRow) (arc : GraphArc) (b : Before) : Type 0 where
  pub node : place_told g arc.from ≡ Some b.node
  pub row : slice_get rows arc.from ≡ Some b.row.now

-- an arc leads from a node of the tables
pub record IsThere (g : Graphed) (rows : List NodeRow) (arc : GraphArc) : Type 0 where
  pub below : arc.from < node_bound g.stored
  pub number : is_number g.stored.pins (pin_under arc.from) ≡ true
  pub listed : arc.from < length rows

-- the delays of arcs, each with the node from which its arc leads
abbrev pub with_sources : List GraphArc → List BothDelays → List ArcDelay
with_sources [] delays = []
with_sources (a ∷ arcs) [] = []
with_sources (a ∷ arcs) (d ∷ delays) = record { from = a.from; early = d.early; late = d.late } ∷ with_sources arcs delays

-- a node's row, and the delays of the arcs into it
pub record IsNodeAnswer (g : Graphed) (node : ℕ) (told : NodeAnswer) : Type 0 where
  pub row : IsNodeRow g.stored node told.row
  pub delays : AreInto g node told.delays

-- what is answered for a number: that, or why it has none
abbrev pub IsAnswer : Graphed → ℕ → Result NodeAnswer Fault → Type 0
IsAnswer g node (Ok told) = IsNodeAnswer g node told
IsAnswer g node (Err fault) = IsRangeFault g.stored.design fault

-- what is answered for a number of a level, and one step that it counts; nothing is asked of other numbers
abbrev pub IsLevelAnswer : {L : Type 0} → Graphed → ℕ → ℕ → Counted L → Type 0
IsLevelAnswer g level node c = node < node_bound g.stored → level_at g node ≡ level → IsAnswer g node c.answer × (c.steps ≡ 1)

-- the nodes of a level, and no others
pub record AreOfLevel (g : Graphed) (level : ℕ) (items : List ℕ) : Type 0 where
  pub sound : (node : ℕ) → Contains items node → (node < node_bound g.stored) × (level_at g node ≡ level)
  pub all : (node : ℕ) → node < node_bound g.stored → level_at g node ≡ level → Contains items node

-- that many rows: those that are there, then empty ones
abbrev pub sized_rows : List NodeRow → ℕ → List NodeRow
sized_rows rows count = take count rows ++ replicate (count - length rows) empty_row
