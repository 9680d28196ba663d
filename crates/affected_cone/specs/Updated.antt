-- What an update of an analysis begins with.

use Rattle.std.specs.Prelude.{ℕ, ◌≡◌, Bool, false, List, Some, is_some}
use Rattle.std.specs.List.{list_any}
use Rattle.timing_defs.specs.Touches.{Touch}
use Rattle.netlist_store.specs.Numbering.{Stored}
use Rattle.level_workers.specs.Mapped.{IsMap}
use Rattle.pin_graph.specs.Graphs.{Graphed, place_at}
use Rattle.pin_graph.specs.Seeds.{AreSeeds}
use Rattle.pin_graph.specs.RowTables.{AreBackRows, AreBacksFine}
use Rattle.arrival_engine.specs.Updated.{AreArrivals}
use Rattle.edit_reach.specs.Reach.{AreBehind}
use Rattle.path_search.specs.Trees.{IsClockTree}
use Rattle.affected_cone.specs.declared.updating.Base.{Base}
use Rattle.affected_cone.specs.declared.updating.Reach.{Reach}
use Rattle.affected_cone.specs.Analysed.{ends_of, IsEnd}

-- the analysis of a base in which no quantity leaves its limit
pub record IsBase (b : Base) : Type 0 where
  pub arrivals : AreArrivals b.graph.now.stored b.arrivals.now
  pub backs : AreBackRows b.graph.now.stored b.required.now.rows
  pub backs_fine : AreBacksFine b.graph.now.stored.design
  pub tree : IsClockTree b.graph.now b.tree.now
  pub ends : IsMap (IsEnd b.graph.now.stored) (ends_of b.graph.now.stored) b.ends.now

-- the seeds of an edit, and the nodes behind them
pub record IsReach (base : Stored) (g : Graphed) (touch : Touch) (reach : Reach) : Type 0 where
  pub seeds : AreSeeds base g.stored touch reach.seeds
  pub behind : AreBehind g reach.seeds reach.nodes.keys

-- a node with a place in the clock network
abbrev pub is_placed : Graphed → ℕ → Bool
is_placed g node = is_some (place_at g node)

-- each node with a place had it in the base, and none is among some nodes
pub record IsNetworkLeft (base g : Graphed) (nodes : List ℕ) : Type 0 where
  pub places : (node place : ℕ) → place_at g node ≡ Some place → place_at base node ≡ Some place
  pub off : list_any (is_placed g) nodes ≡ false
