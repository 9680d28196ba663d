-- What is told of the graph in front of an end node, as functions have it.

use Rattle.std.proofs.Common.{◌≡◌, ℕ, ◌^◌, ◌<◌, ◌≤◌, Bool, true, false, ℤ, List, [], ◌∷◌, length, arith, ◌⊎◌, inl, inr, Option, None, Some, Result, Ok, Err, IfOk, refl, sym, ap, subst, ◌∙◌}
use Rattle.std.specs.Prelude.{All, Contains, if◌then◌else◌, nat_lt, option_and_then}
use Rattle.std.specs.List.{filter_map}
use Rattle.sta_units.specs.Numbers.{Within}
use Rattle.sta_units.specs.declared.units.Memory.{Memory}
use Rattle.timing_defs.specs.declared.edge_times.EdgeTime.{EdgeTime}
use Rattle.timing_defs.specs.declared.design.Design.{Design}
use Rattle.timing_defs.specs.declared.kinds.Kind.{Kind}
use Rattle.timing_defs.specs.declared.kinds.Tran.TheVariants.{Rise, Fall}
use Rattle.timing_defs.specs.declared.rows.NodeRow.{NodeRow}
use Rattle.timing_defs.specs.Netlist.{Node}
use Rattle.timing_rules.specs.Paths.{Named, named, IsSlack as IsPinSlack}
use Rattle.timing_defs.specs.RowTimes.{times_in}
use Rattle.timing_defs.specs.Kinds.{data_split}
use Rattle.netlist_store.specs.Linked.{IsLinked}
use Rattle.netlist_store.specs.Numbering.{Stored, is_number, IsNumbered}
use Rattle.pin_graph.specs.declared.arcs.GraphArc.{GraphArc}
use Rattle.pin_graph.specs.Nodes.{node_at, node_bound, pin_under}
use Rattle.pin_graph.specs.Graphs.{Graphed, IsGraph, fan_at, level_at, network_at}
use Rattle.pin_graph.specs.RowTables.{AreRowsFine, row_numbered}
use Rattle.timing_defs.proofs.Members.{some_is}
use Rattle.arc_delays.specs.declared.tables.ArcDelay.{ArcDelay}
use Rattle.arc_delays.specs.Delays.{AreDelays}
use Rattle.worst_walks.specs.declared.cones.WalkArc.{WalkArc}
use Rattle.path_cones.specs.Following.{arcs_followed, numbered_arc}
use Rattle.path_cones.specs.Reaching.{followed, is_among}
use Rattle.pessimism_credit.specs.declared.rows.TreeRow.{TreeRow}
use Rattle.bounded_slack.specs.Nets.{Net, IsNet, IsSlack, IsLeastOfTwo}
use Rattle.bounded_slack.specs.Nears.{AreNear}
use Rattle.bounded_slack.specs.Rows.{IsByRows, IsLowOffer, least_room, signed_on}
use Rattle.path_search.specs.declared.cones.EndNodes.{EndNodes}
use Rattle.path_search.specs.declared.ends.EndTest.{EndTest}
use Rattle.path_search.specs.declared.launches.LaunchNode.{LaunchNode}
use Rattle.path_search.specs.Lows.{lows_told}
use Rattle.path_search.specs.NearCones.{AreNearTo}
use Rattle.path_search.specs.NodeNets.{arcs_there, launch_told, net_told, offer_told, signed_arrival, fan_net, FanValue, IsFanNet, IsFanOf}
use Rattle.path_search.specs.NodeSlacks.{IsEitherSlack, StandFor}
use Rattle.path_search.specs.PinCones.{AreEndNodes, IsNamedNode}
use Rattle.path_search.specs.Runs.{IsTimed}
use Rattle.path_search.specs.Slacks.{IsReadyTest, MayLaunch, least_slack}
use Rattle.bounded_slack.proofs.Bounds.{net_of_rows}
use Rattle.path_search.proofs.EndLaws.{ready_tests, rows_fine}
use Rattle.path_search.proofs.Endings.{slack_over}
use Rattle.path_search.proofs.Forms.{passed_over}
use Rattle.path_search.proofs.NodeCourses.{pin_slack_told}
use Rattle.path_search.proofs.NodeLaunches.{launch_is}
use Rattle.path_search.proofs.NodeSearches.{by_rows, near_found, node_found, lows_fit, times_fine, there}
use Rattle.path_search.proofs.OfferForms.{node_there, tests_ready}
use Rattle.path_search.proofs.Setting.{timed}

module _ (s : Stored) (g : Graphed) (rows : List NodeRow) (delays : List (List ArcDelay)) (tree : List TreeRow) (kind : Kind) (end : ℕ) (tests : List EndTest) (lows : List EdgeTime)
    (h : IsFanOf s g rows delays tree kind end tests lows) (num : IsNumbered s) (linked : IsLinked s.design) (is : IsGraph g) where
  same : g.stored ≡ s
  same = h.sources.graph

  g_num : IsNumbered g.stored
  g_num = subst (λ (z : Stored). IsNumbered z) (sym same) num

  g_linked : IsLinked g.stored.design
  g_linked = subst (λ (z : Stored). IsLinked z.design) (sym same) linked

  g_time : IsTimed g.stored.design
  g_time = timed g g_num g_linked is

  g_fine : AreRowsFine g.stored.design
  g_fine = subst (λ (z : Stored). AreRowsFine z.design) (sym same) (rows_fine s.design h.sources.none)

  g_delays : AreDelays g.stored delays
  g_delays = subst (λ (z : Stored). AreDelays z delays) (sym same) h.sources.delayed

  g_ready : All (IsReadyTest g.stored.design) tests
  g_ready =
      subst (λ (z : Stored). All (IsReadyTest z.design) tests) (sym same)
      (tests_ready g s same num linked is tree h.sources.clocks kind end tests h.its_tests h.there)

  lows_are : lows ≡ lows_told g.stored.design kind tree tests
  lows_are = h.its_lows ∙ (λ i. lows_told (sym same i).design kind tree tests)

  pub lows_range : All IsLowOffer lows
  lows_range =
      subst (λ (xs : List EdgeTime). All IsLowOffer xs) (sym lows_are) (lows_fit g g_num g_linked is g_time g_fine kind delays g_delays tree h.sources.clocks tests g_ready)

  pub times_range : (n : ℕ) (row : NodeRow) → row ≡ row_numbered s n → All (λ (x : EdgeTime). Within x.time.0) (times_in (data_split kind) row)
  times_range n row e =
      subst (λ (r : NodeRow). All (λ (x : EdgeTime). Within x.time.0) (times_in (data_split kind) r)) ((λ i. row_numbered (same i) n) ∙ sym e)
      (times_fine g g_num g_linked is g_time g_fine kind n)

  pub bound_as : (n : ℕ) (row : NodeRow) → row ≡ row_numbered s n
      → least_room (signed_on kind (times_in (data_split kind) row)) None lows
      ≡ least_room (signed_arrival g kind n) None (lows_told g.stored.design kind tree tests)
  bound_as n row e =
      let at : row ≡ row_numbered g.stored n = e ∙ (λ i. row_numbered (sym same i) n) in
      λ i. least_room (signed_on kind (times_in (data_split kind) (at i))) None (lows_are i)

  pub arcs_as : (n : ℕ) → n < node_bound g.stored → arcs_followed g kind n ≡ arcs_there g kind n
  arcs_as n low = sym (there g g_num g_linked is g_time g_fine kind delays g_delays n low)

  pub offer_some : (n : ℕ) (l : LaunchNode) → MayLaunch g (data_split kind) n (Some l) → (o : Option ℤ) → o ≡ least_slack s.design kind tree l tests
      → o ≡ offer_told g kind tree tests n
  offer_some n l may o e =
      let told = launch_is g g_num g_linked is g_time kind n g_fine (Some l) may in
      e ∙ (λ i. least_slack (sym same i).design kind tree l tests)
      ∙ ap (λ (x : Option LaunchNode). option_and_then (λ k. least_slack g.stored.design kind tree k tests) x) told

  pub offer_none : (n : ℕ) → MayLaunch g (data_split kind) n None → None ≡ offer_told g kind tree tests n
  offer_none n may =
      ap (λ (x : Option LaunchNode). option_and_then (λ k. least_slack g.stored.design kind tree k tests) x) (launch_is g g_num g_linked is g_time kind n g_fine None may)

  nothing_either : (b : Bool) → ◌≡◌ {A = List WalkArc} (if b then [] else []) []
  nothing_either true = refl
  nothing_either false = refl

  -- a node to which a walk can follow an arc offers nothing
  pub offer_passed : (n : ℕ) (arcs : List WalkArc) → arcs ≡ arcs_there g kind n → (arcs ≡ [] → ⊥) → None ≡ offer_told g kind tree tests n
  offer_passed n arcs are some = by (network_at g n) refl (fan_at g.ins n) refl
    where
      empty : followed g n ≡ [] → arcs ≡ []
      empty e =
          are ∙ ap (λ (xs : List GraphArc). if nat_lt n (node_bound g.stored) then filter_map (numbered_arc g.stored kind) xs else []) e
          ∙ nothing_either (nat_lt n (node_bound g.stored))

      by : (network : Bool) → network_at g n ≡ network → (fan : List GraphArc) → fan_at g.ins n ≡ fan → None ≡ offer_told g kind tree tests n
      by true on fan e = absurd (some (empty (ap (λ (b : Bool). if b then [] else fan_at g.ins n) on)))
      by false off [] e = absurd (some (empty (ap (λ (b : Bool). if b then [] else fan_at g.ins n) off ∙ e)))
      by false off (a ∷ more) e =
          offer_none n
          (passed_over g s same num linked is n off (fan_at g.ins n) refl (subst (λ (xs : List GraphArc). 1 ≤ length xs) (sym e) (omega (arith))) (data_split kind))

  pub rows_as : node_bound g.stored < 2 ^ 32 → level_at g end < 2 ^ 22 → IsByRows (net_told g kind tree tests end)
  rows_as fits high =
      by_rows g g_num g_linked is g_time g_fine kind delays g_delays tree h.sources.clocks tests g_ready end
      (subst (λ (z : Stored). end < node_bound z) (sym same) h.below) fits high

  pub found_as : (node : Node) → node_at s end ≡ Some node → StandFor (IsSlack (net_told g kind tree tests end)) s.design kind (named node)
  found_as node its =
      subst (λ (z : Stored). StandFor (IsSlack (net_told g kind tree tests end)) z.design kind (named node)) same
      (node_found g g_num g_linked is g_time g_fine kind delays g_delays tree h.sources.clocks tests g_ready end node ((λ i. node_at (same i) end) ∙ its) h.its_tests)

  end_there : (node : Node) × (node_at g.stored end ≡ Some node)
  end_there = node_there g.stored g_num g_linked end ((λ i. is_number (same i).pins (pin_under end)) ∙ h.there)

  pub near_told : (most : ℤ) (nodes : List ℕ) → AreNear (net_told g kind tree tests end) most nodes → (all : List ℕ) → ((n : ℕ) → Contains nodes n → is_among all n ≡ true)
      → AreNearTo g kind end most all
  near_told =
      near_found g g_num g_linked is g_time g_fine kind delays g_delays tree h.sources.clocks tests g_ready end end_there.0 end_there.1 h.its_tests

-- the same of a net that is told so
module _ (s : Stored) (g : Graphed) (rows : List NodeRow) (delays : List (List ArcDelay)) (tree : List TreeRow) (kind : Kind) (end : ℕ) (fan : FanValue)
    (h : IsFanNet s g rows delays tree kind end fan) (num : IsNumbered s) (linked : IsLinked s.design) (is : IsGraph g) where
  net_rows : node_bound g.stored < 2 ^ 32 → level_at g end < 2 ^ 22 → IsByRows (fan_net fan)
  net_rows fits high = subst (λ (v : FanValue). IsByRows (fan_net v)) (sym h.is) (rows_as s g rows delays tree kind end h.tests h.lows h.told num linked is fits high)

  net_found : (node : Node) → node_at s end ≡ Some node → StandFor (IsSlack (fan_net fan)) s.design kind (named node)
  net_found node its =
      subst (λ (v : FanValue). StandFor (IsSlack (fan_net v)) s.design kind (named node)) (sym h.is) (found_as s g rows delays tree kind end h.tests h.lows h.told num linked is node its)

  pub near_as : (most : ℤ) (nodes : List ℕ) → AreNear (fan_net fan) most nodes → (all : List ℕ) → ((n : ℕ) → Contains nodes n → is_among all n ≡ true) → AreNearTo g kind end most all
  near_as most nodes near =
      near_told s g rows delays tree kind end h.tests h.lows h.told num linked is most nodes (subst (λ (v : FanValue). AreNear (fan_net v) most nodes) h.is near)

-- the least slack of the walks to two nodes is that of the paths to them
either_found : (d : Design) (kind : Kind) (one other : Net) (first second : Named) → StandFor (IsSlack one) d kind first → StandFor (IsSlack other) d kind second
    → (least : Option ℤ) → IsLeastOfTwo one other least → IsEitherSlack d kind first second least
either_found d kind one other first second a b least h = record {
  its = λ s e. elim (h.its s e) [ inl w ↦ inl (a.forth s w) | inr w ↦ inr (b.forth s w) ];
  under_one = a.under least h.all_one;
  under_other = b.under least h.all_other;
}

module _ (s : Stored) (g : Graphed) (rows : List NodeRow) (delays : List (List ArcDelay)) (tree : List TreeRow) (kind : Kind) where
  pub net_bounded : (end : ℕ) (r : Result FanValue Memory) → IfOk r (IsFanNet s g rows delays tree kind end) → IsNumbered s → IsLinked s.design → IsGraph g
      → node_bound g.stored < 2 ^ 32 → level_at g end < 2 ^ 22 → IfOk r (λ fan. IsNet (fan_net fan))
  net_bounded end (Err e) h num linked is fits high = tt
  net_bounded end (Ok fan) h num linked is fits high = net_of_rows (fan_net fan) (net_rows s g rows delays tree kind end fan h num linked is fits high)

  pub both_found : (rise_end fall_end : ℕ) (one other : FanValue) → IsFanNet s g rows delays tree kind rise_end one → IsFanNet s g rows delays tree kind fall_end other
      → IsNumbered s → IsLinked s.design → IsGraph g → (r : Result (Option ℤ) Memory) → IfOk r (IsLeastOfTwo (fan_net one) (fan_net other))
      → IfOk r (λ slack. (rise fall : Node) → node_at s rise_end ≡ Some rise → node_at s fall_end ≡ Some fall → IsEitherSlack s.design kind (named rise) (named fall) slack)
  both_found rise_end fall_end one other a b num linked is (Err e) h = tt
  both_found rise_end fall_end one other a b num linked is (Ok slack) h = λ rise fall e f.
      either_found s.design kind (fan_net one) (fan_net other) (named rise) (named fall)
      (net_found s g rows delays tree kind rise_end one a num linked is rise e) (net_found s g rows delays tree kind fall_end other b num linked is fall f) slack h

-- a pin's slack is the least of those of its two nodes
pub pin_as : (g : Graphed) (s : Stored) → g.stored ≡ s → IsNumbered s → IsLinked s.design → IsGraph g → (kind : Kind) (pin : List ℕ) (ends : EndNodes) → AreEndNodes s pin ends
    → (least : Option ℤ)
    → ((rise fall : Node) → node_at s ends.rise ≡ Some rise → node_at s ends.fall ≡ Some fall → IsEitherSlack s.design kind (named rise) (named fall) least)
    → IsPinSlack s.design kind pin least
pin_as g s same num linked is kind pin ends at least found =
    let t : IsTimed s.design =
    subst (λ (z : Stored). IsTimed z.design) same
    (timed g (subst (λ (z : Stored). IsNumbered z) (sym same) num) (subst (λ (z : Stored). IsLinked z.design) (sym same) linked) is) in
    slack_over s.design t kind pin least
    (pin_slack_told s.design kind pin least
    (subst (λ (n : Named). IsEitherSlack s.design kind n (pin, Fall) least) at.rise.is
    (subst (λ (n : Named). IsEitherSlack s.design kind (named at.rise.node) n least) at.fall.is
    (found at.rise.node at.fall.node at.rise.its at.fall.its))))
