-- Laws of graphs for a store of which the graph is, as functions have them.

use Rattle.std.proofs.Common.{◌≡◌, ℕ, ◌<◌, ◌≤◌, ℤ, Bool, true, false, List, [], ◌∷◌, length, arith, Option, None, Some, Result, Ok, Err, refl, sym, ap, subst, ◌∙◌}
use Rattle.std.specs.Prelude.{Contains, All, IfOk, IfSome, if◌then◌else◌, option_map, option_and_then}
use Rattle.timing_defs.specs.declared.kinds.Split.{Split}
use Rattle.timing_defs.specs.declared.kinds.Kind.{Kind}
use Rattle.timing_defs.specs.declared.rows.NodeRow.{NodeRow}
use Rattle.timing_defs.specs.declared.rows.Launch.{Launch}
use Rattle.timing_defs.specs.Netlist.{Node}
use Rattle.timing_rules.specs.Range.{NoOrigin}
use Rattle.timing_defs.specs.RowTimes.{times_in, time_on, edge_of}
use Rattle.timing_rules.specs.Tests.{Test}
use Rattle.timing_rules.specs.Paths.{named}
use Rattle.netlist_store.specs.Numbering.{Stored, is_number, IsNumbered}
use Rattle.netlist_store.specs.Linked.{IsLinked}
use Rattle.pin_graph.specs.declared.arcs.GraphArc.{GraphArc}
use Rattle.pin_graph.specs.Nodes.{node_at, node_bound, pin_under, tran_under}
use Rattle.pin_graph.specs.Graphs.{Graphed, IsGraph, fan_at, network_at, place_at}
use Rattle.pin_graph.specs.RowTables.{AreRowsFine, row_numbered}
use Rattle.timing_defs.proofs.Members.{some_is, first_in}
use Rattle.store_pins.proofs.PinLaws.{pin_at_number}
use Rattle.pin_graph.proofs.NodeLaws.{has_node, node_below}
use Rattle.node_tests.specs.declared.node_test.NodeTest.{NodeTest}
use Rattle.node_tests.specs.NodeTests.{AreTests, tests_numbered}
use Rattle.timing_defs.specs.declared.edge_times.LaunchEdge.{LaunchEdge}
use Rattle.path_search.specs.declared.ends.EndTest.{EndTest}
use Rattle.path_search.specs.declared.launches.LaunchTime.{LaunchTime}
use Rattle.path_search.specs.declared.launches.LaunchNode.{LaunchNode}
use Rattle.path_search.specs.declared.names.PinNames.{PinNames}
use Rattle.path_search.specs.Launches.{edge_of_launch, IsLaunched}
use Rattle.path_search.specs.Trees.{walk_edge}
use Rattle.path_search.specs.Slacks.{start_told, IsLaunchTime, IsLaunchNode, MayLaunch, ArePinNames, AreToldTests, AreEndTestsOf}
use Rattle.path_search.proofs.LaunchLaws.{edge_on_network, edge_off_network, no_edge, no_time, some_time, launch_told}
use Rattle.path_search.proofs.EndLaws.{clocks_low, ends_told}

-- an arc into a node leads from a number below the bound
pub from_low : (g : Graphed) → IsNumbered g.stored → IsLinked g.stored.design → IsGraph g → (node : ℕ) → node < node_bound g.stored → (arcs : List GraphArc) → arcs ≡ fan_at g.ins node
    → (arc : GraphArc) → Contains arcs arc → arc.from < node_bound g.stored
from_low g num linked is node low arcs e arc c =
    let a = ((is.ins node low).sound arc (subst (λ (xs : List GraphArc). Contains xs arc) e c)).0 in
    node_below g.stored a.from arc.from (has_node g.stored num linked arc.from a.from a.from_number)

-- what holds of an answer where another does
pub ok_then : {X E : Type 0} (r : Result X E) (P Q : X → Type 0) → IfOk r P → ((x : X) → P x → Q x) → IfOk r Q
ok_then (Ok x) P Q h more = more x h
ok_then (Err e) P Q h more = tt

pub pin_there : (b : Bool) (pin under : ℕ) → Some pin ≡ (if b then Some under else None) → b ≡ true
pin_there true pin under e = refl
pin_there false pin under e = absurd (cc)

-- the pin that a number is told to have
pub pin_is : (b : Bool) (pin under : ℕ) → Some pin ≡ (if b then Some under else None) → pin ≡ under
pin_is true pin under e = some_is e
pin_is false pin under e = absurd (cc)

module _ (g : Graphed) (s : Stored) (same : g.stored ≡ s) (num : IsNumbered s) (linked : IsLinked s.design) (is : IsGraph g) where
  g_num : IsNumbered g.stored
  g_num = subst (λ (z : Stored). IsNumbered z) (sym same) num

  g_linked : IsLinked g.stored.design
  g_linked = subst (λ (z : Stored). IsLinked z.design) (sym same) linked

  pub first_low : (node : ℕ) → node < node_bound s → (arc : GraphArc) (arcs : List GraphArc) → arc ∷ arcs ≡ fan_at g.ins node → arc.from < node_bound s
  first_low node low arc arcs e =
      subst (λ (z : Stored). arc.from < node_bound z) same
      (from_low g g_num g_linked is node (subst (λ (z : Stored). node < node_bound z) (sym same) low) (arc ∷ arcs) e arc (first_in arc arcs))

  -- launch edges
  pub network_edge : (split : Split) (number : ℕ) → network_at g number ≡ true → (edge : Option LaunchEdge)
      → option_map edge_of edge ≡ option_and_then (walk_edge s.design) (node_at s number)
      → (node : Node) → node_at s number ≡ Some node → option_map edge_of edge ≡ edge_of_launch s.design split (named node) node
  network_edge split number net edge =
      subst (λ (z : Stored). option_map edge_of edge ≡ option_and_then (walk_edge z.design) (node_at z number)
      → (node : Node) → node_at z number ≡ Some node → option_map edge_of edge ≡ edge_of_launch z.design split (named node) node) same
      (λ e node its. edge_on_network g g_num g_linked is split number node its net edge e)

  pub start_edge : (split : Split) (number : ℕ) → network_at g number ≡ false → (from : NodeRow) (edge : Option LaunchEdge)
      → option_map edge_of edge ≡ start_told (fan_at g.ins number) (times_in split from) → from ≡ row_numbered s number
      → (node : Node) → node_at s number ≡ Some node → option_map edge_of edge ≡ edge_of_launch s.design split (named node) node
  start_edge split number out from edge e =
      subst (λ (z : Stored). from ≡ row_numbered z number
      → (node : Node) → node_at z number ≡ Some node → option_map edge_of edge ≡ edge_of_launch z.design split (named node) node) same
      (λ r node its. edge_off_network g g_num g_linked is split number node its out from r edge e)

  abbrev pub IsEdgeOf : Stored → Split → ℕ → Option LaunchEdge → Type 0
  IsEdgeOf z split number edge = (node : Node) → node_at z number ≡ Some node → option_map edge_of edge ≡ edge_of_launch z.design split (named node) node

  pub none_launched : (split : Split) (number : ℕ) (edge : Option LaunchEdge) → edge ≡ None → IsEdgeOf s split number edge
      → (node : Node) → node_at s number ≡ Some node → IsLaunchTime s.design split node None
  none_launched split number edge none =
      subst (λ (z : Stored). IsEdgeOf z split number edge → (node : Node) → node_at z number ≡ Some node → IsLaunchTime z.design split node None) same
      (λ told node its. no_edge g g_num g_linked is split number node its edge (told node its) none)

  pub none_arrives : (split : Split) (number : ℕ) (edge : Option LaunchEdge) (on : LaunchEdge) → edge ≡ Some on → (from : NodeRow)
      → None ≡ time_on (times_in split from) (edge_of on) → IsEdgeOf s split number edge → from ≡ row_numbered s number
      → (node : Node) → node_at s number ≡ Some node → IsLaunchTime s.design split node None
  none_arrives split number edge on some from none =
      subst (λ (z : Stored). IsEdgeOf z split number edge → from ≡ row_numbered z number
      → (node : Node) → node_at z number ≡ Some node → IsLaunchTime z.design split node None) same
      (λ told r node its. no_time g g_num g_linked is split number node its edge (told node its) on some from r none)

  pub one_arrives : (split : Split) (number : ℕ) (edge : Option LaunchEdge) (on : LaunchEdge) → edge ≡ Some on → (from : NodeRow) (time : ℤ)
      → Some time ≡ time_on (times_in split from) (edge_of on) → IsEdgeOf s split number edge → from ≡ row_numbered s number
      → (node : Node) → node_at s number ≡ Some node → IsLaunched s.design split (edge_of on) (named node) time
  one_arrives split number edge on some from time e =
      subst (λ (z : Stored). IsEdgeOf z split number edge → from ≡ row_numbered z number
      → (node : Node) → node_at z number ≡ Some node → IsLaunched z.design split (edge_of on) (named node) time) same
      (λ told r node its. some_time g g_num g_linked is split number node its edge (told node its) on some from r time e)

  -- a number that is told to have a pin has a node
  pub node_of_pin : (number pin : ℕ) → Some pin ≡ (if is_number g.stored.pins (pin_under number) then Some (pin_under number) else None)
      → (node : Node) × (node_at s number ≡ Some node)
  node_of_pin number pin e =
      let there : is_number s.pins (pin_under number) ≡ true =
      (λ k. is_number (sym same k).pins (pin_under number)) ∙ pin_there (is_number g.stored.pins (pin_under number)) pin (pin_under number) e in
      let p = pin_at_number s num linked (pin_under number) there in
      (record { pin = p.0; tran = tran_under number }, ap (option_map (λ pin. record { pin = pin; tran = tran_under number })) p.1.pin)

  -- a number of no node launches nothing
  pub gap_launch : (split : Split) (number : ℕ) → node_at s number ≡ None → MayLaunch g split number None
  gap_launch split number none =
      (λ node its. absurd (let clash : None ≡ Some node = sym none ∙ (λ k. node_at (sym same k) number) ∙ its in cc))

  pub no_launch : (split : Split) (number : ℕ) → ((node : Node) → node_at s number ≡ Some node → IsLaunchTime s.design split node None) → MayLaunch g split number None
  no_launch split number =
      subst (λ (z : Stored). ((node : Node) → node_at z number ≡ Some node → IsLaunchTime z.design split node None) → MayLaunch g split number None) same (λ h. h)

  -- a node outside the clock network to which an arc leads launches nothing
  pub passed_over : (number : ℕ) → network_at g number ≡ false → (arcs : List GraphArc) → arcs ≡ fan_at g.ins number → 1 ≤ length arcs
      → (split : Split) → MayLaunch g split number None
  passed_over number out arcs into some split =
      no_launch split number
      (none_launched split number None refl
      (start_edge split number out (row_numbered s number) None
      (by arcs some ∙ ap (λ (xs : List GraphArc). start_told xs (times_in split (row_numbered s number))) into) refl))
    where
      by : (xs : List GraphArc) → 1 ≤ length xs → None ≡ start_told xs (times_in split (row_numbered s number))
      by [] h = absurd (omega (arith, h))
      by (x ∷ xs) h = refl

  pub one_launch : (split : Split) (number : ℕ) (at : LaunchTime) (names : PinNames) (place : Option ℕ) → place ≡ place_at g number → (told : LaunchNode)
      → told.launch ≡ (λ (x : Launch). x) (record { pin = names.pin; cell = names.cell; clock = at.edge.clock }) → told.tran ≡ at.edge.tran → told.time ≡ at.time → told.place ≡ place
      → AreRowsFine s.design → ((node : Node) → node_at s number ≡ Some node → IsLaunchTime s.design split node (Some at)) → ArePinNames s (pin_under number) names
      → (node : Node) → node_at s number ≡ Some node → IsLaunchNode g split number told
  one_launch split number at names place p told launch tran time put =
      subst (λ (z : Stored). AreRowsFine z.design → ((node : Node) → node_at z number ≡ Some node → IsLaunchTime z.design split node (Some at)) → ArePinNames z (pin_under number) names
      → (node : Node) → node_at z number ≡ Some node → IsLaunchNode g split number told) same
      (λ fine launched are node its. launch_told g g_num g_linked is split number node its fine at (launched node its) names are place p told launch tran time put)

  -- the tests of an end node
  pub clocks_as : (found : List NodeTest) (tests : List Test) → AreTests s found tests → All (λ t. IfSome t.clock (λ n. n < node_bound g.stored)) found
  clocks_as found tests h =
      subst (λ (z : Stored). All (λ (t : NodeTest). IfSome t.clock (λ n. n < node_bound z)) found) (sym same) (clocks_low s num linked found tests h)

  pub ends_as : (kind : Kind) (end pin : ℕ) → pin ≡ pin_under end → (found : List NodeTest) (told : List EndTest) → NoOrigin s.design
      → AreTests s found (tests_numbered s kind end) → AreToldTests s g pin found told → AreEndTestsOf g kind end told
  ends_as kind end pin under found told =
      subst (λ (z : Stored). NoOrigin z.design → AreTests z found (tests_numbered z kind end) → AreToldTests z g pin found told → AreEndTestsOf g kind end told) same
      (λ none a b. ends_told g g_num g_linked is none kind end pin under found told a b)
