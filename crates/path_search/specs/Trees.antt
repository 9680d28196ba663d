-- The clock tree of a timing graph: its nodes by their places, each with the place of the node before it and its
-- arrivals on the launch edge of its walk (TAU 2015 contest: clock pessimism removal).

use Rattle.std.specs.Prelude.{ℕ, ◌≡◌, ◌<◌, ℤ, pos, List, length, slice_get, slice_index_or, Option, Some, None, option_map, option_and_then}
use Rattle.std.specs.Option.{option_map_or}
use Rattle.timing_defs.specs.declared.kinds.Split.TheVariants.{Early, Late}
use Rattle.timing_defs.specs.declared.kinds.Tran.{Tran}
use Rattle.timing_defs.specs.declared.design.Design.{Design}
use Rattle.timing_defs.specs.Netlist.{Node}
use Rattle.timing_defs.specs.declared.rows.NodeRow.{NodeRow}
use Rattle.timing_rules.specs.Rows.{arrival}
use Rattle.timing_defs.specs.RowTimes.{time_on, edge_of}
use Rattle.timing_rules.specs.Tests.{network_walk, first_edge}
use Rattle.pin_graph.specs.Nodes.{node_at}
use Rattle.pin_graph.specs.Graphs.{Graphed, fan_at, place_at}
use Rattle.node_tests.specs.Walks.{first_from}
use Rattle.pessimism_credit.specs.declared.rows.TreeRow.{TreeRow}
use Rattle.pessimism_credit.specs.Credit.{IsTree}
use Rattle.timing_defs.specs.declared.edge_times.LaunchEdge.{LaunchEdge}

-- the launch edge of the clock network's walk to a node
abbrev pub walk_edge : Design → Node → Option (ℕ × Tran)
walk_edge d node = option_and_then (first_edge d) (network_walk d node)

-- early and late arrival where both are there, else 0
abbrev pub both_times : Option ℤ → Option ℤ → ℤ × ℤ
both_times None late = (pos 0, pos 0)
both_times (Some early) None = (pos 0, pos 0)
both_times (Some early) (Some late) = (early, late)

abbrev pub times_at : Design → Node → ℕ × Tran → ℤ × ℤ
times_at d node edge = both_times (arrival d Early node edge) (arrival d Late node edge)

abbrev pub times_told : NodeRow → Option LaunchEdge → ℤ × ℤ
times_told row edge = option_map_or (λ e. both_times (time_on row.early (edge_of e)) (time_on row.late (edge_of e))) edge (pos 0, pos 0)

-- those on the launch edge of the node's walk
abbrev pub tree_times : Design → Node → ℤ × ℤ
tree_times d node = option_map_or (times_at d node) (walk_edge d node) (pos 0, pos 0)

-- the place of the node before a node of the network; none of a clock port's node
abbrev pub parent_place : Graphed → ℕ → Option ℕ
parent_place g number = option_and_then (place_at g) (first_from (fan_at g.ins number))

pub record IsTreeRow (g : Graphed) (number : ℕ) (node : Node) (row : TreeRow) : Type 0 where
  pub parent : row.parent ≡ parent_place g number
  pub times : (row.early.0, row.late.0) ≡ tree_times g.stored.design node

-- each place has the row of its node
pub record HasRow (g : Graphed) (rows : List TreeRow) (number place : ℕ) (node : Node) : Type 0 where
  pub row : TreeRow
  pub at : slice_get rows place ≡ Some row
  pub told : IsTreeRow g number node row

pub record IsClockTree (g : Graphed) (rows : List TreeRow) : Type 0 where
  pub tree : IsTree rows
  pub each : (number place : ℕ) (node : Node) → place_at g number ≡ Some place → node_at g.stored number ≡ Some node → HasRow g rows number place node

-- the nodes of places
pub record ArePlaceNodes (g : Graphed) (nodes : List (Option ℕ)) : Type 0 where
  pub told : (place number : ℕ) → slice_index_or nodes place None ≡ Some number → place_at g number ≡ Some place
  pub there : (number place : ℕ) → place_at g number ≡ Some place → slice_index_or nodes place None ≡ Some number

-- the launch edges of the first places
abbrev pub edge_at : List (Option LaunchEdge) → ℕ → Option (ℕ × Tran)
edge_at edges place = option_map edge_of (slice_index_or edges place None)

pub record AreEdges (g : Graphed) (edges : List (Option LaunchEdge)) : Type 0 where
  pub edge : (number place : ℕ) (node : Node) → place < length edges → place_at g number ≡ Some place → node_at g.stored number ≡ Some node
      → edge_at edges place ≡ walk_edge g.stored.design node

-- the launch edge of the node of a place that has one
abbrev pub IsEdgeAt : Graphed → Option ℕ → Option LaunchEdge → Type 0
IsEdgeAt g None edge = edge ≡ None
IsEdgeAt g (Some number) edge = (node : Node) → node_at g.stored number ≡ Some node → option_map edge_of edge ≡ walk_edge g.stored.design node

-- the row of the node of a place that has one
abbrev pub empty_tree_row : TreeRow
empty_tree_row = record { parent = None; early = record { 0 = pos 0 }; late = record { 0 = pos 0 } }

abbrev pub IsRowAt : Graphed → Option ℕ → TreeRow → Type 0
IsRowAt g None row = row ≡ empty_tree_row
IsRowAt g (Some number) row = (node : Node) → node_at g.stored number ≡ Some node → IsTreeRow g number node row
