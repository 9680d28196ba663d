-- What a node offers, as functions have it.

use Rattle.std.proofs.Common.{◌≡◌, ℕ, ◌<◌, ℤ, true, List, length, Option, None, Some, sym, ap, subst, ◌∙◌}
use Rattle.std.specs.Prelude.{All, IfSome, option_map}
use Rattle.timing_defs.specs.declared.kinds.Split.{Split}
use Rattle.timing_defs.specs.declared.kinds.Kind.{Kind}
use Rattle.timing_defs.specs.Netlist.{Node}
use Rattle.timing_defs.specs.Kinds.{data_split}
use Rattle.netlist_store.specs.Numbering.{Stored, is_number, IsNumbered}
use Rattle.netlist_store.specs.Linked.{IsLinked}
use Rattle.pin_graph.specs.Nodes.{node_at, pin_under, tran_under}
use Rattle.pin_graph.specs.Graphs.{Graphed, IsGraph}
use Rattle.store_pins.proofs.PinLaws.{pin_at_number}
use Rattle.node_tests.specs.NodeTests.{tests_numbered}
use Rattle.pessimism_credit.specs.declared.rows.TreeRow.{TreeRow}
use Rattle.path_search.specs.declared.ends.EndTest.{EndTest}
use Rattle.path_search.specs.declared.launches.LaunchNode.{LaunchNode}
use Rattle.path_search.specs.Trees.{IsClockTree}
use Rattle.path_search.specs.Slacks.{AreEndTestsOf, IsLaunchNode, MayLaunch, IsReadyLaunch, IsReadyTest, least_slack, is_low, IsOfferOf}
use Rattle.path_search.proofs.EndLaws.{place_within, ready_tests, places_within, ready_launch}
use Rattle.path_search.proofs.OfferLaws.{offer_is, no_launch}

-- the node of a number whose pin is there
pub node_there : (s : Stored) → IsNumbered s → IsLinked s.design → (number : ℕ) → is_number s.pins (pin_under number) ≡ true → (node : Node) × (node_at s number ≡ Some node)
node_there s num linked number e =
    let p = pin_at_number s num linked (pin_under number) e in
    (record { pin = p.0; tran = tran_under number }, ap (option_map (λ pin. record { pin = pin; tran = tran_under number })) p.1.pin)

module _ (g : Graphed) (s : Stored) (same : g.stored ≡ s) (num : IsNumbered s) (linked : IsLinked s.design) (is : IsGraph g) (rows : List TreeRow) (tree : IsClockTree g rows) where
  g_num : IsNumbered g.stored
  g_num = subst (λ (z : Stored). IsNumbered z) (sym same) num

  g_linked : IsLinked g.stored.design
  g_linked = subst (λ (z : Stored). IsLinked z.design) (sym same) linked

  pub launch_ready : (split : Split) (number : ℕ) (l : LaunchNode) → IsLaunchNode g split number l → IsReadyLaunch s.design l
  launch_ready split number l launch =
      subst (λ (z : Stored). IsReadyLaunch z.design l) same (ready_launch g g_num g_linked is rows tree split number l launch)

  pub launch_placed : (split : Split) (number : ℕ) (l : LaunchNode) → IsLaunchNode g split number l → IfSome l.place (λ p. p < length rows)
  launch_placed split number l launch = place_within g g_num g_linked is rows tree number l.place launch.place

  module _ (kind : Kind) (end : ℕ) (tests : List EndTest) (are : AreEndTestsOf g kind end tests) (there : is_number s.pins (pin_under end) ≡ true) where
    end_node : (node : Node) × (node_at g.stored end ≡ Some node)
    end_node = node_there g.stored g_num g_linked end ((λ k. is_number (same k).pins (pin_under end)) ∙ there)

    pub tests_ready : All (IsReadyTest s.design) tests
    tests_ready =
        subst (λ (z : Stored). All (IsReadyTest z.design) tests) same
        (ready_tests g g_num g_linked is rows tree end_node.0 tests (tests_numbered g.stored kind end) (are end_node.0 end_node.1))

    pub tests_placed : All (λ t. IfSome t.place (λ p. p < length rows)) tests
    tests_placed = places_within g g_num g_linked is rows tree end_node.0 tests (tests_numbered g.stored kind end) (are end_node.0 end_node.1)

    pub offer_as : (number : ℕ) (l : LaunchNode) → IsLaunchNode g (data_split kind) number l → (o : Option ℤ) → o ≡ least_slack s.design kind rows l tests → is_low o ≡ true
        → IsOfferOf s kind number end o
    offer_as number l launch o e low =
        (subst (λ (z : Stored). o ≡ least_slack z.design kind rows l tests → IsOfferOf z kind number end o) same
        (λ f endnode its. offer_is g g_num g_linked is rows tree kind number end endnode its tests (are endnode its) l launch o f low)) e

    pub none_as : (number : ℕ) → MayLaunch g (data_split kind) number None → IsOfferOf s kind number end None
    none_as number none =
        subst (λ (z : Stored). IsOfferOf z kind number end None) same (λ endnode its. no_launch g g_num g_linked is rows tree kind number end none endnode)
