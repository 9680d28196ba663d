-- The whole timing analysis of a store: the rows of all nodes, and the slacks of all endpoints.

use Rattle.std.specs.Prelude.{ℕ, ◌≡◌, ℤ, Bool, true, false, List, filter, length, slice_get, Option, Some, option_map}
use Rattle.std.specs.List.{range_with_len}
use Rattle.std.specs.Option.{option_map_or}
use Rattle.timing_defs.specs.declared.kinds.Kind.{Kind}
use Rattle.timing_defs.specs.declared.kinds.Kind.TheVariants.{Setup, Hold}
use Rattle.timing_defs.specs.declared.rows.NodeRow.{NodeRow}
use Rattle.timing_defs.specs.declared.rows.BackRow.{BackRow}
use Rattle.timing_rules.specs.Checks.{IsSound}
use Rattle.timing_rules.specs.Range.{NoOrigin}
use Rattle.timing_rules.specs.Tests.{is_endpoint}
use Rattle.timing_rules.specs.Paths.{IsSlack}
use Rattle.netlist_store.specs.Numbering.{Stored, name_at, pin_numbered, IsNumbered}
use Rattle.netlist_store.specs.Linked.{IsLinked}
use Rattle.level_workers.specs.Mapped.{IsMap}
use Rattle.pin_graph.specs.Graphs.{Graphed, IsGraph}
use Rattle.pin_graph.specs.RowTables.{AreRows, AreBackRows}
use Rattle.arrival_engine.specs.declared.tables.Arrivals.{Arrivals}
use Rattle.arc_delays.specs.Delays.{AreDelays}
use Rattle.arrival_engine.specs.Analysed.{AreTables}
use Rattle.std.specs.Arc.{arc_value}
use Rattle.pessimism_credit.specs.declared.rows.TreeRow.{TreeRow}
use Rattle.path_search.specs.Trees.{IsClockTree}
use Rattle.required_engine.specs.Worked.{is_back_within}
use Rattle.affected_cone.specs.declared.ends.EndSlacks.{EndSlacks}
use Rattle.affected_cone.specs.declared.ends.Search.{Search}

-- the numbers of the endpoints, rising
abbrev pub is_end : Stored → ℕ → Bool
is_end s pin = option_map_or (is_endpoint s.design) (pin_numbered s pin) false

abbrev pub ends_of : Stored → List ℕ
ends_of s = filter (is_end s) (range_with_len 0 (length s.pins))

-- the slack of an endpoint of a kind
abbrev pub slack_in : Kind → EndSlacks → Option ℤ
slack_in Setup end = option_map (λ slack. slack.0) end.setup
slack_in Hold end = option_map (λ slack. slack.0) end.hold

-- the slacks of the endpoint of a pin's number
pub record IsEnd (s : Stored) (pin : ℕ) (end : EndSlacks) : Type 0 where
  pub number : end.pin ≡ pin
  pub slack : (kind : Kind) (name : List ℕ) → name_at s.pins pin ≡ Some name → IsSlack s.design kind name (slack_in kind end)

-- a store, the rows of its nodes by their numbers, and its endpoints by the numbers of their pins
pub record Analysed : Type 0 where
  pub stored : Stored
  pub rows : List NodeRow
  pub backs : List BackRow
  pub ends : List EndSlacks

-- the analysis of a sound design in which no quantity leaves its limit
pub record IsAnalysis (a : Analysed) : Type 0 where
  pub sound : IsSound a.stored.design
  pub fine : NoOrigin a.stored.design
  pub rows : AreRows a.stored a.rows
  pub backs : AreBackRows a.stored a.backs
  pub ends : IsMap (IsEnd a.stored) (ends_of a.stored) a.ends

-- what an analysis is kept with: the graph of its store, the tables of its arrivals, and the clock tree
pub record IsKept (g : Graphed) (arrivals : Arrivals) (backs : List BackRow) (places : List TreeRow) : Type 0 where
  pub numbered : IsNumbered g.stored
  pub linked : IsLinked g.stored.design
  pub graph : IsGraph g
  pub tables : AreTables g.stored arrivals
  pub delays : AreDelays g.stored (arc_value arrivals.delays)
  pub within : (node : ℕ) (row : BackRow) → slice_get backs node ≡ Some row → is_back_within row ≡ true
  pub tree : IsClockTree g places

-- what paths are searched over: a sound design in which no quantity leaves its limit, with its rows and its clock tree
pub record IsSearch (x : Search) : Type 0 where
  pub sound : IsSound x.store.now.design
  pub graph : x.graph.now.stored ≡ x.store.now
  pub fine : NoOrigin x.store.now.design
  pub rows : AreRows x.store.now x.arrivals.now.rows
  pub tables : AreTables x.store.now x.arrivals.now
  pub delays : AreDelays x.store.now (arc_value x.arrivals.now.delays)
  pub tree : IsClockTree x.graph.now x.tree.now
