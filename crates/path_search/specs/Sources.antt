-- What paths are searched in.

use Rattle.std.specs.Prelude.{◌≡◌, List}
use Rattle.timing_defs.specs.declared.rows.NodeRow.{NodeRow}
use Rattle.timing_rules.specs.Checks.{IsSound}
use Rattle.timing_rules.specs.Range.{NoOrigin}
use Rattle.netlist_store.specs.Numbering.{Stored}
use Rattle.arc_delays.specs.declared.tables.ArcDelay.{ArcDelay}
use Rattle.arc_delays.specs.Delays.{AreDelays}
use Rattle.pin_graph.specs.Graphs.{Graphed}
use Rattle.pin_graph.specs.RowTables.{AreRows}
use Rattle.pessimism_credit.specs.declared.rows.TreeRow.{TreeRow}
use Rattle.path_search.specs.Trees.{IsClockTree}

-- a sound design in which nothing leaves its limit, with its graph, rows, delays and clock tree
pub record AreSources (s : Stored) (g : Graphed) (rows : List NodeRow) (delays : List (List ArcDelay)) (tree : List TreeRow) : Type 0 where
  pub sound : IsSound s.design
  pub graph : g.stored ≡ s
  pub told : AreRows s rows
  pub delayed : AreDelays s delays
  pub none : NoOrigin s.design
  pub clocks : IsClockTree g tree
