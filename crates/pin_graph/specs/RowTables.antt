-- Tables of rows by the numbers of a graph's nodes, and designs in which no quantity leaves its limit.

use Rattle.std.specs.Prelude.{ℕ, ◌<◌, ◌≡◌, ⊤, true, false, List, length, slice_get, Contains, Some}
use Rattle.std.specs.Option.{option_map_or}
use Rattle.timing_defs.specs.declared.kinds.Split.{Split}
use Rattle.timing_defs.specs.declared.design.Design.{Design}
use Rattle.timing_defs.specs.declared.faults.Fault.{Fault}
use Rattle.timing_defs.specs.declared.faults.Fault.TheVariants.{OutOfRange, Memory as no_room}
use Rattle.timing_defs.specs.declared.rows.NodeRow.{NodeRow}
use Rattle.timing_defs.specs.declared.rows.BackRow.{BackRow}
use Rattle.timing_defs.specs.Netlist.{Node, nodes, is_listed}
use Rattle.timing_rules.specs.Rows.{row, empty_row}
use Rattle.timing_rules.specs.Required.{back_row, empty_back}
use Rattle.timing_rules.specs.Range.{is_origin, is_net_origin, is_forward_origin, is_back_origin}
use Rattle.netlist_store.specs.Numbering.{Stored}
use Rattle.pin_graph.specs.Nodes.{node_at, node_bound}

-- the row of a node's number; that of a number of no node is empty
abbrev pub row_numbered : Stored → ℕ → NodeRow
row_numbered s node = option_map_or (row s.design) (node_at s node) empty_row

abbrev pub back_numbered : Stored → ℕ → BackRow
back_numbered s node = option_map_or (back_row s.design) (node_at s node) empty_back

-- the rows of all nodes are those of the definition
pub record AreRows (s : Stored) (rows : List NodeRow) : Type 0 where
  pub count : length rows ≡ node_bound s
  pub row : (node : ℕ) → node < node_bound s → slice_get rows node ≡ Some (row_numbered s node)

pub record AreBackRows (s : Stored) (rows : List BackRow) : Type 0 where
  pub count : length rows ≡ node_bound s
  pub row : (node : ℕ) → node < node_bound s → slice_get rows node ≡ Some (back_numbered s node)

-- no quantity of wires, slews, delays and arrivals leaves its limit
pub record AreRowsFine (d : Design) : Type 0 where
  pub nets : (net : List ℕ) → is_listed d.nets net ≡ true → is_net_origin d net ≡ false
  pub nodes : (node : Node) → Contains (nodes d) node → (split : Split) → is_forward_origin d split node ≡ false

-- no setup or hold time and no required time leaves its limit
abbrev pub AreBacksFine : Design → Type 0
AreBacksFine d = (node : Node) → Contains (nodes d) node → (split : Split) → is_back_origin d split node ≡ false

-- an analysis is refused at an origin of an overflow; want of memory is free
abbrev pub IsRangeFault : Design → Fault → Type 0
IsRangeFault d (OutOfRange place) = is_origin d place ≡ true
IsRangeFault d no_room = ⊤
IsRangeFault d other = ⊥
