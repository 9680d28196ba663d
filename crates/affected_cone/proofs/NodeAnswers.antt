-- Answers about nodes.

use Rattle.std.proofs.Common.{◌≡◌, ℕ, ℤ, ◌<◌, List, length, Option, None, Some, refl, sym, ap, subst, ◌∙◌}
use Rattle.std.specs.Prelude.{slice_get, option_map, is_some, if◌then◌else◌}
use Rattle.std.specs.Option.{option_map_or}
use Rattle.timing_defs.specs.declared.kinds.Split.{Split}
use Rattle.timing_defs.specs.declared.kinds.Split.TheVariants.{Early, Late}
use Rattle.timing_defs.specs.declared.kinds.Tran.{Tran}
use Rattle.timing_defs.specs.declared.rows.NodeRow.{NodeRow}
use Rattle.timing_defs.specs.declared.rows.BackRow.{BackRow}
use Rattle.timing_defs.specs.declared.reports.Report.{Report}
use Rattle.timing_defs.specs.declared.faults.QueryFault.TheVariants.{UnknownPin}
use Rattle.timing_defs.specs.declared.design.Design.{Design}
use Rattle.timing_defs.specs.declared.constraints.Clock.{Clock}
use Rattle.timing_defs.specs.Netlist.{Node}
use Rattle.timing_rules.specs.Rows.{row, empty_row, outermost, clock_edges, launch_edges}
use Rattle.timing_rules.specs.Required.{back_row, empty_back, slack_on, graph_slack}
use Rattle.timing_rules.specs.Reports.{unknown_pin, at_node, IsAt}
use Rattle.netlist_store.specs.Numbering.{Stored}
use Rattle.pin_graph.specs.Nodes.{node_at, node_bound}
use Rattle.pin_graph.specs.RowTables.{AreRows, AreBackRows}
use Rattle.timing_defs.proofs.Members.{some_is}
use Rattle.affected_cone.specs.Asked.{IsNode}
use Rattle.affected_cone.specs.GraphSlacks.{slack_between}

-- a report on the node of a name
pub node_told : (s : Stored) (name : List ℕ) (tran : Tran) (node : ℕ) → IsNode s name tran node → (report : Node → Report) (r : Report)
    → ((n : Node) → node_at s node ≡ Some n → r ≡ report n) → (unknown_pin s.design name ≡ None) × IsAt s.design name tran report r
node_told s name tran node is report r told = (
  ap (λ o. if is_some o then None else Some (UnknownPin name)) is.named,
  ap Some (told (record { pin = is.pin; tran = tran }) is.told) ∙ sym (ap (option_map (at_node report tran)) is.named),
)

-- the rows of a number
module _ (s : Stored) (node : ℕ) (low : node < node_bound s) (n : Node) (at : node_at s node ≡ Some n) where
  pub row_is : (rows : List NodeRow) → AreRows s rows → (r : NodeRow) → slice_get rows node ≡ Some r → r ≡ row s.design n
  row_is rows are r e = some_is (sym e ∙ are.row node low) ∙ ap (λ o. option_map_or (row s.design) o empty_row) at

  pub back_is : (backs : List BackRow) → AreBackRows s backs → (r : BackRow) → slice_get backs node ≡ Some r → r ≡ back_row s.design n
  back_is backs are r e = some_is (sym e ∙ are.row node low) ∙ ap (λ o. option_map_or (back_row s.design) o empty_back) at

pub row_low : (s : Stored) (node : ℕ) (rows : List NodeRow) → node < node_bound s → AreRows s rows → node < length rows
row_low s node rows low are = subst (λ (n : ℕ). node < n) (sym are.count) low

pub back_low : (s : Stored) (node : ℕ) (backs : List BackRow) → node < node_bound s → AreBackRows s backs → node < length backs
back_low s node backs low are = subst (λ (n : ℕ). node < n) (sym are.count) low

-- the graph slack from the rows of a node
outermost_agree : (f g : ℕ × Tran → Option ℤ) (best : Option ℤ) (edges : List (ℕ × Tran)) → ((edge : ℕ × Tran) → f edge ≡ g edge) → outermost Early f best edges ≡ outermost Early g best edges
outermost_agree f g best edges same = ap (λ (h : ℕ × Tran → Option ℤ). outermost Early h best edges) (λ k edge. same edge k)

on_edge : (d : Design) (split : Split) (n : Node) (edge : ℕ × Tran) → slack_between split (row d n) (back_row d n) edge ≡ slack_on d split n edge
on_edge d Late n edge = refl
on_edge d Early n edge = refl

pub slack_is : (d : Design) (split : Split) (n : Node) (r : NodeRow) (b : BackRow) (clocks : List Clock) → r ≡ row d n → b ≡ back_row d n → clocks ≡ d.constraints.clocks
    → outermost Early (slack_between split r b) None (clock_edges 0 clocks) ≡ graph_slack d split n
slack_is d split n r b clocks e f same =
    ap (λ (x : NodeRow). outermost Early (slack_between split x b) None (clock_edges 0 clocks)) e
    ∙ ap (λ (x : BackRow). outermost Early (slack_between split (row d n) x) None (clock_edges 0 clocks)) f
    ∙ ap (λ (cs : List Clock). outermost Early (slack_between split (row d n) (back_row d n)) None (clock_edges 0 cs)) same
    ∙ outermost_agree (slack_between split (row d n) (back_row d n)) (slack_on d split n) None (launch_edges d) (on_edge d split n)
