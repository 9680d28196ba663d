-- Nodes of paths and pins by the numbers of a store, and what paths are timed in.

use Rattle.std.specs.Prelude.{ℕ, ◌≡◌, ℤ, pos, if◌then◌else◌, List, [], ◌∷◌, Option, Some}
use Rattle.std.specs.Option.{option_map_or}
use Rattle.timing_defs.specs.declared.rows.NodeRow.{NodeRow}
use Rattle.timing_defs.specs.declared.rows.PathNode.{PathNode}
use Rattle.timing_defs.specs.Netlist.{Pin, is_driver}
use Rattle.timing_rules.specs.Paths.{Named}
use Rattle.timing_rules.specs.Range.{NoOrigin}
use Rattle.timing_rules.specs.Stages.{named_node}
use Rattle.netlist_store.specs.Numbering.{Stored, pin_numbered}
use Rattle.node_rows.specs.declared.pin_wires.Wires.{Wires}
use Rattle.node_rows.specs.WireTables.{AreWires}
use Rattle.pin_graph.specs.Nodes.{number_at}
use Rattle.pin_graph.specs.Graphs.{Graphed}
use Rattle.pin_graph.specs.RowTables.{AreRows}
use Rattle.arc_delays.specs.declared.tables.ArcDelay.{ArcDelay}
use Rattle.arc_delays.specs.Delays.{AreDelays}

-- the number of a node by its name
abbrev pub number_named : Stored → Named → Option ℕ
number_named s n = number_at s n.0 n.1

-- 1 for a sink, 0 for a driver
abbrev pub sink_one : Pin → ℤ
sink_one pin = (if is_driver pin then pos 0 else pos 1)

abbrev pub sink_at : Stored → ℕ → ℤ
sink_at s n = option_map_or sink_one (pin_numbered s n) (pos 0)

-- a design in which nothing leaves its limit, with its graph, rows, delays and wires
pub record IsTimer (s : Stored) (g : Graphed) (rows : List NodeRow) (delays : List (List ArcDelay)) (wires : Wires)
    : Type 0 where
  pub graph : g.stored ≡ s
  pub told : AreRows s rows
  pub delayed : AreDelays s delays
  pub wired : AreWires s wires
  pub none : NoOrigin s.design

-- the name of the last of some nodes of a path, behind one
abbrev pub last_named : Option Named → List PathNode → Option Named
last_named before [] = before
last_named before (n ∷ ns) = last_named (Some (named_node n)) ns
