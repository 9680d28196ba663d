-- No quantity along an arc of the graph leaves its limit.

use Rattle.std.proofs.Common.{◌≡◌, ℕ, false, [], ◌∷◌, Some}
use Rattle.std.specs.Prelude.{Contains}
use Rattle.timing_defs.specs.declared.kinds.Split.{Split}
use Rattle.timing_defs.specs.declared.kinds.Tran.{Tran}
use Rattle.timing_defs.specs.declared.kinds.Tran.TheVariants.{Rise, Fall}
use Rattle.timing_defs.specs.Netlist.{Pin, Node, nodes, pins, both_nodes}
use Rattle.timing_rules.specs.Rows.{row}
use Rattle.netlist_store.specs.Linked.{IsLinked}
use Rattle.netlist_store.specs.Numbering.{IsNumbered}
use Rattle.node_rows.specs.Evaluation.{is_wide_along}
use Rattle.pin_graph.specs.declared.arcs.GraphArc.{GraphArc}
use Rattle.pin_graph.specs.Nodes.{node_at}
use Rattle.pin_graph.specs.Graphs.{Graphed, IsArc}
use Rattle.timing_defs.proofs.Members.{first_in, later_in, in_flat_map}
use Rattle.pin_graph.proofs.NodeLaws.{HasNode, has_node}
use Rattle.arc_delays.specs.Delays.{AreWithin}

both_in : (pin : Pin) (t : Tran) → Contains (both_nodes pin) (record { pin = pin; tran = t })
both_in pin Rise = first_in (record { pin = pin; tran = Rise }) (record { pin = pin; tran = Fall } ∷ [])
both_in pin Fall = later_in (record { pin = pin; tran = Rise }) (record { pin = pin; tran = Fall } ∷ []) (record { pin = pin; tran = Fall }) (first_in (record { pin = pin; tran = Fall }) [])

module _ (g : Graphed) (num : IsNumbered g.stored) (linked : IsLinked g.stored.design) where
  listed : (k : ℕ) (node : Node) → node_at g.stored k ≡ Some node → Contains (nodes g.stored.design) node
  listed k node told =
      let has : HasNode g.stored node k = has_node g.stored num linked k node told in
      in_flat_map both_nodes (pins g.stored.design) node.pin node has.has.within (both_in node.pin node.tran)

  pub narrow_arc : (fine : AreWithin g.stored.design) (arc : GraphArc) (a : IsArc g.stored arc) (split : Split)
      → is_wide_along g.stored.design split a.to a.from (row g.stored.design a.from) ≡ false
  narrow_arc fine arc a split = fine.arcs split a.to a.from (listed arc.to a.to a.to_number) a.within
