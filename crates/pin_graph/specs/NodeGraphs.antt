-- What is found of a design's nodes: arcs, levels and places.

use Rattle.std.specs.Prelude.{ℕ, ◌≡◌, Bool, List, map}
use Rattle.netlist_store.specs.Numbering.{Stored}
use Rattle.levelizer.specs.Levels.{AreLevels}
use Rattle.pin_graph.specs.declared.arcs.GraphArc.{GraphArc}
use Rattle.pin_graph.specs.declared.fans.End.TheVariants.{From, To}
use Rattle.pin_graph.specs.declared.tables.NodeGraph.{NodeGraph}
use Rattle.pin_graph.specs.declared.tables.NodeTables.{NodeTables}
use Rattle.pin_graph.specs.declared.tables.PinTables.{PinTables}
use Rattle.pin_graph.specs.declared.pins.PinGraph.{PinGraph}
use Rattle.pin_graph.specs.Fans.{IsFanOf}
use Rattle.pin_graph.specs.HeldFans.{IsHeldFan}
use Rattle.pin_graph.specs.Marks.{flag_of}
use Rattle.pin_graph.specs.Networks.{clock_ports}
use Rattle.pin_graph.specs.NodeArcs.{node_link}
use Rattle.pin_graph.specs.Nodes.{node_bound}
use Rattle.pin_graph.specs.Placing.{ArePlaced, AreInOrder}

-- the fans of some arcs, the nodes' levels along them, and the places of the network's nodes
pub record IsFound (s : Stored) (network : List Bool) (arcs : List GraphArc) (nodes : NodeGraph) : Type 0 where
  pub ins : IsFanOf (node_bound s) To arcs nodes.ins
  pub outs : IsFanOf (node_bound s) From arcs nodes.outs
  pub leveled : AreLevels (node_bound s) (map node_link arcs) nodes.levels
  pub placed : ArePlaced (node_bound s) network (clock_ports s) arcs nodes.levels nodes.places
  pub ordered : AreInOrder nodes.places nodes.order

-- the same in tables whose copies share them
pub record AreNodeTables (n : ℕ) (nodes : NodeGraph) (made : NodeTables) : Type 0 where
  pub ins : IsHeldFan n nodes.ins made.ins
  pub outs : IsHeldFan n nodes.outs made.outs
  pub levels : made.levels ≡ nodes.levels
  pub places : made.places ≡ nodes.places
  pub order : made.order ≡ nodes.order

pub record ArePinTables (pins : PinGraph) (made : PinTables) : Type 0 where
  pub network : made.network ≡ pins.network
  pub fed : made.fed ≡ map flag_of pins.reach.from_clocks
  pub feeds : made.feeds ≡ map flag_of pins.reach.to_registers
  pub levels : made.levels ≡ pins.levels
