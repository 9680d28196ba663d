-- The test by which paths count, as functions have it.

use Rattle.std.proofs.Common.{◌≡◌, ℕ, ◌<◌, ℤ, true, List, [], ◌∷◌, length, Option, None, Some, sym, ap, subst, ◌∙◌, inl, inr}
use Rattle.std.specs.Prelude.{All, IfSome, is_some}
use Rattle.std.specs.Ordering.{nat_cmp, ordering_then}
use Rattle.std.specs.Cmp.Lexicographic.{slice_cmp}
use Rattle.std.proofs.lemmas.List.Elements.{All-nil, All-cons, All-contains}
use Rattle.timing_defs.specs.declared.kinds.Tran.{Tran}
use Rattle.timing_defs.specs.declared.kinds.Kind.{Kind}
use Rattle.timing_defs.specs.Netlist.{Node, name_of}
use Rattle.timing_rules.specs.Tests.{Test}
use Rattle.timing_defs.specs.Kinds.{data_split}
use Rattle.timing_rules.specs.Paths.{Named, named, named_cmp, tran_cmp}
use Rattle.netlist_store.specs.Numbering.{Stored, name_at, is_number, IsNumbered}
use Rattle.netlist_store.specs.Linked.{IsLinked}
use Rattle.pin_graph.specs.Nodes.{node_at, node_bound, pin_under, tran_under}
use Rattle.pin_graph.specs.Graphs.{Graphed, IsGraph}
use Rattle.timing_defs.proofs.Members.{some_is}
use Rattle.pin_graph.proofs.NodeLaws.{has_node, node_below, under_number}
use Rattle.node_tests.specs.NodeTests.{IsClockNode, tests_numbered}
use Rattle.node_tests.proofs.ClimbLaws.{node_pin}
use Rattle.pessimism_credit.specs.declared.rows.TreeRow.{TreeRow}
use Rattle.path_search.specs.declared.counted.Counted.{Counted}
use Rattle.path_search.specs.declared.counted.Chosen.{Chosen}
use Rattle.path_search.specs.declared.ends.EndTest.{EndTest}
use Rattle.path_search.specs.declared.launches.LaunchNode.{LaunchNode}
use Rattle.path_search.specs.Launches.{IsLaunched}
use Rattle.path_search.specs.Offers.{IsOffer}
use Rattle.path_search.specs.Trees.{IsClockTree}
use Rattle.path_search.specs.Slacks.{AreEndTests, AreEndTestsOf, IsLaunchNode, MayLaunch, IsOfferOf, credit_told}
use Rattle.path_search.specs.Counts.{IsCounted, IsCountedAt, IsKnown, chosen_of, gives, chosen_over}
use Rattle.path_search.proofs.OfferForms.{node_there, tests_placed}
use Rattle.path_search.proofs.CountLaws.{IsChosen, AreChosen, chosen_is, none_chosen, counted_is}

-- the name of a node's pin
node_name : (s : Stored) → IsNumbered s → IsLinked s.design → (number : ℕ) (node : Node) → node_at s number ≡ Some node → name_at s.pins (pin_under number) ≡ Some (name_of node.pin)
node_name s num linked number node e =
    let h = has_node s num linked number node e in
    ap (name_at s.pins) (ap pin_under h.number ∙ under_number h.pin node.tran) ∙ h.has.name

pub cmp_told : (s : Stored) → IsNumbered s → IsLinked s.design → (a b : ℕ) (first second : List ℕ) (ta tb : Tran) → name_at s.pins (pin_under a) ≡ Some first
    → name_at s.pins (pin_under b) ≡ Some second → ta ≡ tran_under a → tb ≡ tran_under b → (x y : Node) → node_at s a ≡ Some x → node_at s b ≡ Some y
    → ordering_then (slice_cmp nat_cmp first second) (tran_cmp ta tb) ≡ named_cmp (named x) (named y)
cmp_told s num linked a b first second ta tb fa fb ea eb x y ax by_ =
    let p : first ≡ name_of x.pin = some_is (sym fa ∙ node_name s num linked a x ax) in
    let q : second ≡ name_of y.pin = some_is (sym fb ∙ node_name s num linked b y by_) in
    let t : ta ≡ x.tran = ea ∙ (node_pin s a x ax).1 in
    let u : tb ≡ y.tran = eb ∙ (node_pin s b y by_).1 in
    (λ k. ordering_then (slice_cmp nat_cmp (p k) (q k)) (tran_cmp (t k) (u k)))

module _ (s : Stored) (num : IsNumbered s) (linked : IsLinked s.design) where
  known : (a : Option ℕ) (b : Option Node) → IsClockNode s a b → IfSome a (λ n. n < node_bound s) × IfSome a (λ n. is_number s.pins (pin_under n) ≡ true)
  known None None h = (tt, tt)
  known (Some n) (Some node) h = (node_below s node n (has_node s num linked n node h), ap is_some (node_name s num linked n node h))
  known None (Some node) h = absurd h
  known (Some n) None h = absurd h

module _ (g : Graphed) (num : IsNumbered g.stored) (linked : IsLinked g.stored.design) where
  all_known : (end : Named) (ts : List EndTest) (xs : List Test) → AreEndTests g end ts xs → All (λ t. IsKnown g.stored (chosen_of t)) ts
  all_known end [] [] h = All-nil (λ (t : EndTest). IsKnown g.stored (chosen_of t))
  all_known end (t ∷ ts) (x ∷ xs) h =
      let k = known g.stored num linked t.test.clock x.clock h.0.its.clock in
      All-cons (λ (u : EndTest). IsKnown g.stored (chosen_of u)) t ts (record { low = k.0; there = k.1 }) (all_known end ts xs h.1)
  all_known end [] (x ∷ xs) h = absurd h
  all_known end (t ∷ ts) [] h = absurd h

module _ (g : Graphed) (s : Stored) (same : g.stored ≡ s) (num : IsNumbered s) (linked : IsLinked s.design) (is : IsGraph g) (rows : List TreeRow) (tree : IsClockTree g rows)
    (kind : Kind) (end : ℕ) (tests : List EndTest) (are : AreEndTestsOf g kind end tests) (there : is_number s.pins (pin_under end) ≡ true) where
  g_num : IsNumbered g.stored
  g_num = subst (λ (z : Stored). IsNumbered z) (sym same) num

  g_linked : IsLinked g.stored.design
  g_linked = subst (λ (z : Stored). IsLinked z.design) (sym same) linked

  end_node : (node : Node) × (node_at g.stored end ≡ Some node)
  end_node = node_there g.stored g_num g_linked end ((λ k. is_number (same k).pins (pin_under end)) ∙ there)

  pub tests_known : All (λ t. IsKnown s (chosen_of t)) tests
  tests_known =
      subst (λ (z : Stored). All (λ (t : EndTest). IsKnown z (chosen_of t)) tests) same
      (all_known g g_num g_linked (named end_node.0) tests (tests_numbered g.stored kind end) (are end_node.0 end_node.1))

  module _ (number : ℕ) (l : LaunchNode) (launch : IsLaunchNode g (data_split kind) number l) (offer : ℤ) (o : Option Chosen)
      (told : o ≡ chosen_over s (gives s.design kind rows l offer) None tests) where
    chosen_told : AreChosen g.stored (gives g.stored.design kind rows l offer) None tests o
    chosen_told =
        subst (λ (p : Option Chosen). AreChosen g.stored (gives g.stored.design kind rows l offer) None tests p)
        (sym (told ∙ (λ k. chosen_over (sym same k) (gives (sym same k).design kind rows l offer) None tests)))
        (chosen_is g.stored (gives g.stored.design kind rows l offer) None tests)

    pub chosen_placed : (c : Chosen) → o ≡ Some c → IfSome c.place (λ p. p < length rows)
    chosen_placed c e = by (subst (λ (p : Option Chosen). AreChosen g.stored (gives g.stored.design kind rows l offer) None tests p) e chosen_told)
      where
        by : IsChosen g.stored (gives g.stored.design kind rows l offer) None tests c → IfSome c.place (λ p. p < length rows)
        by h = elim h.found [
          | inl clash ↦ absurd (cc)
          | inr r ↦
              subst (λ (x : Chosen). IfSome x.place (λ p. p < length rows)) r.3
              (All-contains (λ (t : EndTest). IfSome t.place (λ p. p < length rows)) tests r.0 (tests_placed g s same num linked is rows tree kind end tests are there) r.1)
        ]

    module _ (of : IsOfferOf s kind number end (Some offer)) where
      offered : IsOffer g.stored.design kind (named launch.node) (named end_node.0) offer
      offered =
          let r = (subst (λ (z : Stored). IsOfferOf z kind number end (Some offer)) (sym same) of) end_node.0 end_node.1 in
          let n : r.0 ≡ launch.node = some_is (sym r.1 ∙ launch.its) in
          subst (λ (x : Node). IsOffer g.stored.design kind (named x) (named end_node.0) offer) n r.2

      pub chosen_there : o ≡ None → ⊥
      chosen_there e =
          none_chosen g g_num g_linked is rows tree kind number end l launch end_node.0 end_node.1 tests (are end_node.0 end_node.1) offer offered
          (subst (λ (p : Option Chosen). AreChosen g.stored (gives g.stored.design kind rows l offer) None tests p) e chosen_told)

      pub chosen_counted : (c : Chosen) → o ≡ Some c → (out : Counted) → out.launch_clock ≡ l.launch.clock → out.launch_tran ≡ l.tran → out.time ≡ l.time
          → out.capture_clock ≡ c.test.capture_clock → out.capture_tran ≡ c.test.capture_tran → out.credit.0 ≡ credit_told rows l.place c.place
          → IsCountedAt s kind number end offer out
      chosen_counted c e out clock tran time capture_clock capture_tran its_credit =
          subst (λ (z : Stored). IsCountedAt z kind number end offer out) same (λ a b at bt.
          (let p : launch.node ≡ a = some_is (sym launch.its ∙ at) in
          let q : end_node.0 ≡ b = some_is (sym end_node.1 ∙ bt) in
          subst (λ (x : Node). IsCounted g.stored kind (named x) (named b) offer out) p
          (subst (λ (y : Node). IsCounted g.stored kind (named launch.node) (named y) offer out) q
          (counted_is g g_num g_linked is rows tree kind number end l launch end_node.0 end_node.1 tests (are end_node.0 end_node.1) offer offered c
          (subst (λ (z : Option Chosen). AreChosen g.stored (gives g.stored.design kind rows l offer) None tests z) e chosen_told) out clock tran time capture_clock capture_tran its_credit))))

-- what offers something is a launch node
pub launch_there : (g : Graphed) (s : Stored) → g.stored ≡ s → IsNumbered s → IsLinked s.design → (kind : Kind) (number end : ℕ) (offer : ℤ) → is_number s.pins (pin_under end) ≡ true
    → IsOfferOf s kind number end (Some offer) → MayLaunch g (data_split kind) number None → ⊥
launch_there g s same num linked kind number end offer there of none =
    let e = node_there s num linked end there in
    let r = of e.0 e.1 in
    (subst (λ (z : Stored). (node : Node) → node_at z number ≡ Some node → (edge : ℕ × Tran) (time : ℤ) → IsLaunched z.design (data_split kind) edge (named node) time → ⊥) same none)
    r.0 r.1 r.2.edge r.2.time r.2.launched
