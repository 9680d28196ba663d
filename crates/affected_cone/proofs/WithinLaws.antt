-- The rows of nodes are within their limits where no quantity leaves its limit.

use Rattle.std.proofs.Common.{◌≡◌, ℕ, true, Some, refl, arith, ap, ◌∙◌}
use Rattle.std.specs.Prelude.{Contains}
use Rattle.timing_defs.specs.declared.rows.NodeRow.{NodeRow}
use Rattle.timing_defs.specs.Netlist.{Pin, Node, pins, nodes, both_nodes}
use Rattle.timing_rules.specs.Rows.{row}
use Rattle.timing_rules.specs.Range.{NoOrigin}
use Rattle.netlist_store.specs.Numbering.{Stored, IsNumbered}
use Rattle.netlist_store.specs.Linked.{IsLinked}
use Rattle.node_rows.specs.Evaluation.{is_row_within}
use Rattle.node_rows.specs.declared.pin_wires.Wires.{Wires}
use Rattle.node_rows.specs.WireTables.{AreWires}
use Rattle.pin_graph.specs.Nodes.{node_at}
use Rattle.pin_graph.specs.Graphs.{Graphed, IsGraph}
use Rattle.timing_defs.proofs.Members.{in_flat_map}
use Rattle.pin_graph.proofs.NodeLaws.{has_node}
use Rattle.arc_delays.proofs.RangeLaws.{rows_fine, within}
use Rattle.timing_defs.specs.declared.kinds.Tran.{Tran}
use Rattle.timing_defs.specs.declared.kinds.Tran.TheVariants.{Rise, Fall}

both_in : (pin : Pin) (t : Tran) → Contains (both_nodes pin) (record { pin = pin; tran = t })
both_in pin Rise = (0, omega arith, refl)
both_in pin Fall = (1, omega arith, refl)

pub row_within : (s : Stored) (g : Graphed) → g.stored ≡ s → IsNumbered s → IsLinked s.design → IsGraph g → (wires : Wires) → AreWires s wires → NoOrigin s.design
    → (node : ℕ) (n : Node) → node_at s node ≡ Some n → (r : NodeRow) → r ≡ row s.design n → is_row_within r ≡ true
row_within s g same num linked is wires are fine node n at r e =
    let has = has_node s num linked node n at in
    let listed : Contains (nodes s.design) n = in_flat_map both_nodes (pins s.design) n.pin n has.has.within (both_in n.pin n.tran) in
    ap is_row_within e ∙ (within g s same num linked is wires are (rows_fine s.design fine)).rows n listed
