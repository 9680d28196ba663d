-- What questions are answered from.

use Rattle.std.specs.Prelude.{ℕ, ◌≡◌, ◌<◌, true, slice_get, Some}
use Rattle.timing_defs.specs.declared.kinds.Split.{Split}
use Rattle.timing_defs.specs.declared.rows.BackRow.{BackRow}
use Rattle.timing_defs.specs.declared.reports.Report.{Report}
use Rattle.timing_defs.specs.Netlist.{Node}
use Rattle.timing_rules.specs.Required.{graph_slack}
use Rattle.timing_rules.specs.Reports.{fs_value}
use Rattle.pin_graph.specs.Nodes.{node_at, node_bound}
use Rattle.arc_delays.specs.Delays.{AreDelays}
use Rattle.arrival_engine.specs.Analysed.{AreTables}
use Rattle.std.specs.Arc.{arc_value}
use Rattle.path_search.specs.Trees.{IsClockTree}
use Rattle.required_engine.specs.Worked.{is_back_within}
use Rattle.affected_cone.specs.declared.asking.Known.{Known}
use Rattle.affected_cone.specs.Analysed.{IsAnalysis}

-- a store with the parts of its analysis
pub record IsKnown (k : Known) : Type 0 where
  pub analysis : IsAnalysis (record { stored = k.store.now; rows = k.arrivals.now.rows; backs = k.required.now.rows; ends = k.ends.now })
  pub graph : k.graph.now.stored ≡ k.store.now
  pub tables : AreTables k.store.now k.arrivals.now
  pub delays : AreDelays k.store.now (arc_value k.arrivals.now.delays)
  pub within : (node : ℕ) (row : BackRow) → slice_get k.required.now.rows node ≡ Some row → is_back_within row ≡ true
  pub tree : IsClockTree k.graph.now k.tree.now

-- the number of a node
pub record IsThere (k : Known) (node : ℕ) : Type 0 where
  pub at : Node
  pub told : node_at k.store.now node ≡ Some at
  pub below : node < node_bound k.store.now

-- a report of the graph slack of the node of a number
abbrev pub IsSlackReport : Known → ℕ → Split → Report → Type 0
IsSlackReport k node split r = (n : Node) → node_at k.store.now node ≡ Some n → r ≡ fs_value (graph_slack k.store.now.design split n)
