-- An analysis of required times: the rows of nodes by their numbers, over the slews and arrivals of all
-- nodes (OpenTimer; TAU 2015 contest; own rule of range).

use Rattle.std.specs.Prelude.{ℕ, ◌≡◌, ◌<◌, ◌≤◌, ◌-◌, ◌++◌, ⊤, Bool, true, false, if◌then◌else◌, List, map, take, replicate, length, slice_get, Contains, Option, Some, None, option_map, Result, Ok, Err, ◌&&◌}
use Rattle.std.specs.List.{list_all, list_any}
use Rattle.std.specs.Option.{option_map_or}
use Rattle.sta_units.specs.Numbers.{is_within}
use Rattle.timing_defs.specs.declared.kinds.Split.{Split}
use Rattle.timing_defs.specs.declared.kinds.Tran.{Tran}
use Rattle.timing_defs.specs.declared.edge_times.EdgeTime.{EdgeTime}
use Rattle.timing_defs.specs.declared.design.Design.{Design}
use Rattle.timing_defs.specs.declared.rows.NodeRow.{NodeRow}
use Rattle.timing_defs.specs.declared.rows.BackRow.{BackRow}
use Rattle.timing_defs.specs.declared.faults.Fault.{Fault}
use Rattle.timing_defs.specs.declared.faults.Fault.TheVariants.{OutOfRange, Memory as no_room}
use Rattle.timing_defs.specs.declared.faults.Place.TheVariants.{Pin as at_pin}
use Rattle.timing_defs.specs.Netlist.{Node}
use Rattle.timing_rules.specs.Rows.{launch_edges}
use Rattle.timing_rules.specs.Tests.{is_endpoint}
use Rattle.timing_rules.specs.Required.{empty_back}
use Rattle.timing_rules.specs.Range.{is_origin, fine_required, is_required_origin, is_back_origin}
use Rattle.netlist_store.specs.Numbering.{Stored, name_at, is_number, pin_numbered}
use Rattle.pin_graph.specs.declared.arcs.GraphArc.{GraphArc}
use Rattle.pin_graph.specs.Nodes.{node_at, node_bound, pin_under}
use Rattle.pin_graph.specs.Graphs.{Graphed, fan_at, level_at}
use Rattle.pin_graph.specs.RowTables.{AreRows, AreRowsFine, row_numbered, back_numbered, IsRangeFault}
use Rattle.arc_delays.specs.declared.tables.ArcDelay.{ArcDelay}
use Rattle.arc_delays.specs.Delays.{AreDelays}
use Rattle.required_engine.specs.declared.nodes.AskedNode.{AskedNode}
use Rattle.required_engine.specs.declared.turns.Counted.{Counted}
use Rattle.required_engine.specs.declared.unfit.Unfit.{Unfit}
use Rattle.required_engine.specs.declared.unfit.Unfit.TheVariants.{Range, Memory}

-- the slews and arrivals of all nodes, none of which leaves its limit, with the delays of all arcs
pub record AreFound (s : Stored) (found : List NodeRow) (table : List (List ArcDelay)) : Type 0 where
  pub rows : AreRows s found
  pub fine : AreRowsFine s.design
  pub delays : AreDelays s table

-- the required times of a node have values within their limits, and no setup or hold time leaves its limit
pub record IsFineBack (d : Design) (node : Node) : Type 0 where
  pub times : (split : Split) (edge : ℕ × Tran) → Contains (launch_edges d) edge → fine_required d split edge node ≡ true
  pub origins : (split : Split) → is_back_origin d split node ≡ false

-- each required time of a row lies within its limit
abbrev pub is_back_within : BackRow → Bool
is_back_within row = list_all (λ (t : EdgeTime). is_within t.time.0) row.early && list_all (λ (t : EdgeTime). is_within t.time.0) row.late

-- the required times of a node's number, of a node that is fine
pub record IsBackRow (s : Stored) (node : ℕ) (told : BackRow) : Type 0 where
  pub row : told ≡ back_numbered s node
  pub fine : (n : Node) → node_at s node ≡ Some n → IsFineBack s.design n

-- a node is refused at its pin, which is an origin of an overflow; want of memory is free
abbrev pub IsBackFault : Stored → ℕ → Fault → Type 0
IsBackFault s node (OutOfRange place) = (Some place ≡ option_map at_pin (name_at s.pins (pin_under node))) × (is_origin s.design place ≡ true)
IsBackFault s node no_room = ⊤
IsBackFault s node other = ⊥

-- the row of a number is the definition's, and its node is fine
pub record IsDone (s : Stored) (rows : List BackRow) (node : ℕ) : Type 0 where
  pub row : slice_get rows node ≡ Some (back_numbered s node)
  pub fine : (n : Node) → node_at s node ≡ Some n → IsFineBack s.design n

-- each required time of the rows lies within its limit
abbrev pub AreBacksWithin : List BackRow → Type 0
AreBacksWithin rows = (node : ℕ) (row : BackRow) → slice_get rows node ≡ Some row → is_back_within row ≡ true

-- the rows of the nodes to which arcs lead from a node are the definition's, and these nodes are fine
pub record AreReady (g : Graphed) (rows : List BackRow) (node : ℕ) : Type 0 where
  pub after : (arc : GraphArc) → Contains (fan_at g.outs node) arc → IsDone g.stored rows arc.to

-- the rows from a level on are the definition's, and their nodes are fine
pub record AreDoneFrom (g : Graphed) (rows : List BackRow) (level : ℕ) : Type 0 where
  pub count : length rows ≡ node_bound g.stored
  pub done : (node : ℕ) → node < node_bound g.stored → level ≤ level_at g node → IsDone g.stored rows node

-- a required time of a node leaves its limit
abbrev pub is_wide_back : Stored → Split → ℕ → Bool
is_wide_back s split node =
    option_map_or (λ n. list_any (is_required_origin s.design split n) (launch_edges s.design)) (node_at s node) false

-- required times are not found where one leaves its limit; want of memory is free
abbrev pub IsUnfit : Bool → Unfit → Type 0
IsUnfit wide Range = wide ≡ true
IsUnfit wide Memory = ⊤

-- the pin's number of a node; none of a gap
abbrev pub pin_told : Stored → ℕ → Option ℕ
pin_told s node = (if is_number s.pins (pin_under node) then Some (pin_under node) else None)

-- a node of the store, its row, and whether its pin is an endpoint
pub record IsAsked (s : Stored) (node : AskedNode) : Type 0 where
  pub below : node.number < node_bound s
  pub row : node.row.now ≡ row_numbered s node.number
  pub endpoint : option_map (is_endpoint s.design) (pin_numbered s (pin_under node.number)) ≡ Some node.endpoint

-- what is answered for a number: a node's required times, or why it has none
abbrev pub IsAnswer : Stored → ℕ → Result BackRow Fault → Type 0
IsAnswer s node (Ok told) = IsBackRow s node told
IsAnswer s node (Err fault) = IsRangeFault s.design fault

-- what is answered for a number, where it is of a level
abbrev pub IsAnswerAt : Graphed → ℕ → ℕ → Result BackRow Fault → Type 0
IsAnswerAt g level k r = k < node_bound g.stored → level_at g k ≡ level → IsAnswer g.stored k r

-- the same, and one step that it counts
abbrev pub IsCountedAt : {L : Type 0} → Graphed → ℕ → ℕ → Counted L → Type 0
IsCountedAt g level k c = k < node_bound g.stored → level_at g k ≡ level → IsAnswer g.stored k c.answer × (c.steps ≡ 1)

-- what is answered, without the counts
abbrev pub answers_of : {L : Type 0} → List (Counted L) → List (Result BackRow Fault)
answers_of found = map (λ c. c.answer) found

-- the nodes of a level, and no others
pub record AreOfLevel (g : Graphed) (level : ℕ) (items : List ℕ) : Type 0 where
  pub sound : (node : ℕ) → Contains items node → (node < node_bound g.stored) × (level_at g node ≡ level)
  pub all : (node : ℕ) → node < node_bound g.stored → level_at g node ≡ level → Contains items node

-- that many rows: those that are there, then empty ones
abbrev pub sized_rows : List BackRow → ℕ → List BackRow
sized_rows rows count = take count rows ++ replicate (count - length rows) empty_back
