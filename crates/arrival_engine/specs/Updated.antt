-- The update of rows after an ECO: which nodes are evaluated, by the numbers of the edited store.

use Rattle.std.specs.Prelude.{ℕ, ◌≡◌, ◌<◌, ◌||◌, ◌&&◌, nat_eq, nat_le, filter, Bool, not, if◌then◌else◌, List, [], map, length, get_or, Some, is_some}
use Rattle.std.specs.Arc.{arc_value}
use Rattle.std.specs.Ordering.{int_eq}
use Rattle.timing_defs.specs.declared.rows.NodeRow.{NodeRow}
use Rattle.timing_defs.specs.Netlist.{Node}
use Rattle.timing_rules.specs.Rows.{empty_row}
use Rattle.timing_defs.specs.Touches.{Touch}
use Rattle.timing_rules.specs.Cones.{same_option, same_row, is_seed, row_differs}
use Rattle.netlist_store.specs.Numbering.{Stored, is_number}
use Rattle.level_workers.specs.Mapped.{IsMap}
use Rattle.level_cone.specs.Cone.{Cone, put_all}
use Rattle.pin_graph.specs.declared.arcs.GraphArc.{GraphArc}
use Rattle.pin_graph.specs.Nodes.{node_at, node_bound, pin_under}
use Rattle.pin_graph.specs.Graphs.{Graphed, fan_at, level_at, of_node}
use Rattle.pin_graph.specs.RowTables.{row_numbered, AreRows, AreRowsFine}
use Rattle.arc_delays.specs.declared.tables.ArcDelay.{ArcDelay}
use Rattle.arc_delays.specs.Delays.{AreDelays, AreDelaysAt}
use Rattle.arrival_engine.specs.declared.nodes.NodeAnswer.{NodeAnswer}
use Rattle.arrival_engine.specs.declared.tables.Arrivals.{Arrivals}
use Rattle.arrival_engine.specs.Analysed.{AreTables, IsNodeAnswer, IsFineNode}

-- the slews and arrivals of a store, in which no quantity leaves its limit
pub record AreArrivals (s : Stored) (a : Arrivals) : Type 0 where
  pub rows : AreRows s a.rows
  pub tables : AreTables s a
  pub delays : AreDelays s (arc_value a.delays)
  pub fine : AreRowsFine s.design

-- the row of the base at a number of the edited store; empty where that is of no node
abbrev pub row_before : Stored → Stored → ℕ → NodeRow
row_before s s2 n = (if is_some (node_at s2 n) then row_numbered s n else empty_row)

-- the numbers of the nodes from which arcs lead to a node, and of those to which arcs lead from it
abbrev pub froms_of : Graphed → ℕ → List ℕ
froms_of g n = map (λ (arc : GraphArc). arc.from) (fan_at g.ins n)

abbrev pub heads_of : Graphed → ℕ → List ℕ
heads_of g n = map (λ (arc : GraphArc). arc.to) (fan_at g.outs n)

-- the nodes that an ECO affects, with their rows before and after it
abbrev pub forward_cone : Stored → Touch → Graphed → Cone NodeRow
forward_cone s touch g = record {
  count = node_bound g.stored;
  level = level_at g;
  fan = froms_of g;
  seed = of_node g.stored (is_seed s.design g.stored.design touch);
  differs = of_node g.stored (row_differs s.design g.stored.design);
  was = row_before s g.stored;
  now = row_numbered g.stored;
}

-- whether a row differs from that which the base has at its number, or the base has none there
abbrev pub is_moved : Stored → List NodeRow → ℕ → NodeRow → Bool
is_moved s rows n row = not (is_number s.pins (pin_under n)) || not (same_row (get_or rows n empty_row) row)

-- whether two delays of arcs are the same
abbrev pub same_delay : ArcDelay → ArcDelay → Bool
same_delay a b = nat_eq a.from b.from && same_option int_eq a.early b.early && same_option int_eq a.late b.late

-- what is answered for some nodes, in their order
abbrev pub rows_told : List NodeAnswer → List NodeRow
rows_told answers = map (λ (a : NodeAnswer). a.row) answers

abbrev pub delays_told : List NodeAnswer → List (List ArcDelay)
delays_told answers = map (λ (a : NodeAnswer). a.delays) answers

-- the rows and the delays that an update begins with: those of the base, and empty rows at numbers that are of no node any more
pub record AreBegun (base edited : Stored) (rows : List NodeRow) (delays : List (List ArcDelay)) : Type 0 where
  pub row_count : length rows ≡ node_bound edited
  pub delay_count : length delays ≡ node_bound edited
  pub rows_were : (node : ℕ) → node < node_bound edited → get_or rows node empty_row ≡ row_before base edited node
  pub delays_were : (node : ℕ) → node < node_bound edited → AreDelaysAt base node (get_or delays node [])

-- right answers for the nodes of a level are put to their places
pub record IsLevelPut (g : Graphed) (nodes : List ℕ) (rows : List NodeRow) (delays : List (List ArcDelay)) (rows' : List NodeRow) (delays' : List (List ArcDelay)) : Type 0 where
  pub answers : List NodeAnswer
  pub told : IsMap (IsNodeAnswer g) nodes answers
  pub rows_put : rows' ≡ put_all rows nodes (rows_told answers)
  pub delays_put : delays' ≡ put_all delays nodes (delays_told answers)

-- the rows of the store of a graph, whose nodes are fine, and the delays of the arcs into each
pub record AreRenewed (g : Graphed) (rows : List NodeRow) (delays : List (List ArcDelay)) : Type 0 where
  pub rows_are : AreRows g.stored rows
  pub delay_count : length delays ≡ node_bound g.stored
  pub delays_are : (node : ℕ) → node < node_bound g.stored → AreDelaysAt g.stored node (get_or delays node [])
  pub fine : (node : ℕ) → node < node_bound g.stored → (n : Node) → node_at g.stored node ≡ Some n → IsFineNode g.stored.design n

-- whether a number is of a node whose row is another than that in a table of the base
abbrev pub is_other : Stored → Stored → List NodeRow → ℕ → Bool
is_other s s2 rows n = is_number s2.pins (pin_under n) && (nat_le (length rows) n || is_moved s rows n (row_numbered s2 n))

-- those of some nodes whose row is another than the base's
abbrev pub AreOther : Stored → Stored → List ℕ → List ℕ → Type 0
AreOther s s2 nodes found = found ≡ filter (of_node s2 (row_differs s.design s2.design)) nodes
