-- What a full analysis finds of a store, beside its graph.

use Rattle.std.specs.Prelude.{ℕ, ◌≡◌, true, List, slice_get, Some}
use Rattle.timing_defs.specs.declared.rows.BackRow.{BackRow}
use Rattle.timing_rules.specs.Range.{NoOrigin}
use Rattle.netlist_store.specs.Numbering.{Stored}
use Rattle.level_workers.specs.Mapped.{IsMap}
use Rattle.pin_graph.specs.Graphs.{Graphed}
use Rattle.pin_graph.specs.RowTables.{AreRows, AreBackRows}
use Rattle.arrival_engine.specs.declared.tables.Arrivals.{Arrivals}
use Rattle.arc_delays.specs.Delays.{AreDelays}
use Rattle.arrival_engine.specs.Analysed.{AreTables}
use Rattle.std.specs.Arc.{arc_value}
use Rattle.path_search.specs.Trees.{IsClockTree}
use Rattle.required_engine.specs.Worked.{is_back_within}
use Rattle.affected_cone.specs.declared.found.Found.{Found}
use Rattle.affected_cone.specs.Analysed.{ends_of, IsEnd}

-- the slews and arrivals of a store, with the tables that they are found with
pub record AreArrivals (s : Stored) (a : Arrivals) : Type 0 where
  pub rows : AreRows s a.rows
  pub tables : AreTables s a
  pub delays : AreDelays s (arc_value a.delays)

-- its required times, each within its limit
pub record AreRequired (s : Stored) (backs : List BackRow) : Type 0 where
  pub rows : AreBackRows s backs
  pub within : (node : ℕ) (row : BackRow) → slice_get backs node ≡ Some row → is_back_within row ≡ true

pub record IsFound (s : Stored) (g : Graphed) (found : Found) : Type 0 where
  pub fine : NoOrigin s.design
  pub arrivals : AreArrivals s found.arrivals
  pub required : AreRequired s found.required.rows
  pub tree : IsClockTree g found.tree
  pub ends : IsMap (IsEnd s) (ends_of s) found.ends
