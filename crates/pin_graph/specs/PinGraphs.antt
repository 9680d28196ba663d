-- The arcs, levels and clock network of a design, pin by pin.

use Rattle.std.specs.Prelude.{◌≡◌, length}
use Rattle.levelizer.specs.Levels.{AreLevels}
use Rattle.netlist_store.specs.Numbering.{Stored}
use Rattle.pin_graph.specs.declared.pins.PinGraph.{PinGraph}
use Rattle.pin_graph.specs.Joins.{befores, pin_arcs, pin_links}
use Rattle.pin_graph.specs.Networks.{IsNetwork, AreClockMarks}

pub record IsPinGraph (s : Stored) (g : PinGraph) : Type 0 where
  pub table : g.befores ≡ befores s
  pub joins : g.arcs ≡ pin_arcs s
  pub leveled : AreLevels (length s.pins) (pin_links s) g.levels
  pub marked : IsNetwork s g.network
  pub clocked : AreClockMarks s g.reach.from_clocks g.reach.to_registers g.network
