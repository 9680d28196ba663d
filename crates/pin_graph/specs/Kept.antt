-- What is kept of a graph's nodes and pins, number by number: of another store in which the same holds it is
-- the graph too.

use Rattle.std.specs.Prelude.{ℕ, ◌≡◌, ◌<◌, ◌≤◌, nat_eq, Bool, ◌&&◌, ◌||◌, List, [], map, length, slice_index, slice_index_or, Contains, count_by, Option, None, Some, is_some}
use Rattle.std.specs.List.{list_any, range_with_len}
use Rattle.timing_defs.specs.NetChecks.{net_fault}
use Rattle.levelizer.specs.Levels.{AreLevels}
use Rattle.netlist_store.specs.Numbering.{Stored}
use Rattle.pin_graph.specs.declared.arcs.GraphArc.{GraphArc}
use Rattle.pin_graph.specs.declared.tables.Tables.{Tables}
use Rattle.pin_graph.specs.Nodes.{node_bound, pin_under}
use Rattle.pin_graph.specs.Joins.{before, pin_arcs, pin_links}
use Rattle.pin_graph.specs.Networks.{clock_ports, clock_pins, AreClockMarks}
use Rattle.pin_graph.specs.NodeArcs.{marked, raw_into, AreJoined}
use Rattle.pin_graph.specs.Marks.{is_one}
use Rattle.pin_graph.specs.Placing.{AreInOrder}
use Rattle.pin_graph.specs.Trees.{AreAllApart}
use Rattle.pin_graph.specs.Graphs.{Graphed, fan_at, IsFans, AreNodeLevels, IsGraph}

abbrev pub graph_in : Stored → Tables → Graphed
graph_in s t = record { stored = s; ins = t.ins; outs = t.outs; network = t.network; levels = t.levels; places = t.places }

-- the arcs out of nodes are those into nodes, each at the node from which it leads
pub record AreTurned (n : ℕ) (ins outs : ℕ → List GraphArc) : Type 0 where
  pub sound : (node : ℕ) → node < n → (arc : GraphArc) → Contains (outs node) arc → (arc.from ≡ node) × (arc.to < n) × Contains (ins arc.to) arc
  pub all : (node : ℕ) → node < n → (arc : GraphArc) → Contains (ins node) arc → (arc.to ≡ node) × (arc.from < n) × Contains (outs arc.from) arc
  pub once : (node : ℕ) → node < n → (to : ℕ) → count_by (λ arc. nat_eq arc.to to) (outs node) ≤ 1

-- a network node is placed where its pin is a clock's port or an arc leads to it from a placed one; places are
-- distinct, below the number of network nodes, and rise along arcs
pub record AreNumberPlaces (n : ℕ) (network : List Bool) (ports : List ℕ) (ins : ℕ → List GraphArc) (places : List (Option ℕ)) : Type 0 where
  pub count : length places ≡ n
  pub there : (node : ℕ) → node < n → is_some (slice_index_or places node None)
      ≡ (marked network (pin_under node) && (list_any (nat_eq (pin_under node)) ports || list_any (λ arc. is_some (slice_index_or places arc.from None)) (ins node)))
  pub distinct : (a b p : ℕ) → slice_index_or places a None ≡ Some p → slice_index_or places b None ≡ Some p → a ≡ b
  pub below : (node p : ℕ) → slice_index_or places node None ≡ Some p → p < count_by (λ m. marked network (pin_under m)) (range_with_len 0 n)
  pub rising : (node p q : ℕ) (arc : GraphArc) → node < n → Contains (ins node) arc
      → slice_index_or places arc.from None ≡ Some p → slice_index_or places node None ≡ Some q → p < q

-- which pins the clocks' ports reach, and which reach registers' clock pins, by the numbers 1 and 0
pub record AreFlags (s : Stored) (t : Tables) : Type 0 where
  pub clocked : AreClockMarks s (map is_one t.fed) (map is_one t.feeds) t.network
  pub fed : (pin : ℕ) → slice_index t.fed pin ≤ 1
  pub feeds : (pin : ℕ) → slice_index t.feeds pin ≤ 1

-- what holds of each pin and of each node
pub record AreTables (s : Stored) (t : Tables) : Type 0 where
  pub fault : net_fault s.design ≡ None
  pub rising : AreLevels (length s.pins) (pin_links s) t.pin_levels
  pub flags : AreFlags s t
  pub entered : AreAllApart t.network (pin_arcs s) []
  pub in_fan : IsFans (node_bound s) t.ins
  pub out_fan : IsFans (node_bound s) t.outs
  pub joined : (node : ℕ) → node < node_bound s → AreJoined (raw_into s t.network node) (fan_at t.ins node)
  pub outward : AreTurned (node_bound s) (fan_at t.ins) (fan_at t.outs)
  pub leveled : AreNodeLevels (graph_in s t)
  pub placed : AreNumberPlaces (node_bound s) t.network (clock_ports s) (fan_at t.ins) t.places
  pub ordered : AreInOrder t.places t.order

-- a store's tables make its graph
pub record IsKept (s : Stored) (t : Tables) : Type 0 where
  pub tables : AreTables s t
  pub graph : IsGraph (graph_in s t)

-- a graph of its tables
pub record IsKeptGraph (g : Graphed) : Type 0 where
  pub tables : Tables
  pub same : g ≡ graph_in g.stored tables
  pub kept : IsKept g.stored tables

-- by numbers two stores have the same links, clocks' ports and registers' clock pins
pub record HaveSameLinks (s s2 : Stored) : Type 0 where
  pub pins : s2.pins ≡ s.pins
  pub befores : (pin : ℕ) → before s2 pin ≡ before s pin
  pub arcs : pin_arcs s2 ≡ pin_arcs s
  pub ports : clock_ports s2 ≡ clock_ports s
  pub clocks : clock_pins s2 ≡ clock_pins s
