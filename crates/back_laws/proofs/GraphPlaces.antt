-- The levels of a graph are places that rise along arcs.

use Rattle.std.proofs.Common.{refl}
use Rattle.std.specs.Prelude.{Contains}
use Rattle.timing_defs.specs.Netlist.{Node, pins}
use Rattle.netlist_store.specs.Linked.{IsLinked}
use Rattle.netlist_store.specs.Numbering.{IsNumbered}
use Rattle.pin_graph.specs.Nodes.{node_number}
use Rattle.pin_graph.specs.Graphs.{Graphed, IsGraph}
use Rattle.store_pins.proofs.PinLaws.{pin_told}
use Rattle.pin_graph.proofs.GraphRows.{Stands, level, placed, low_level}
use Rattle.calm_laws.proofs.InDesign.{ArePlaces}

module _ (g : Graphed) (num : IsNumbered g.stored) (linked : IsLinked g.stored.design) (is : IsGraph g) where
  stood : (n : Node) → Contains (pins g.stored.design) n.pin → Stands g num linked is n
  stood n c = let p = pin_told g.stored num linked n.pin c in (node_number p.0 n.tran, record { pin = p.0; has = p.1; number = refl })

  pub graph_places : ArePlaces g.stored.design (level g num linked is)
  graph_places = record {
    rising = λ to c from arc. (placed g num linked is).rising to (stood to c) from arc;
    short = λ n c. low_level g num linked is n (stood n c);
  }
