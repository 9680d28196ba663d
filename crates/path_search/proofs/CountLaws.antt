-- The test that is chosen of those that give the least slack is that by which paths count.

use Rattle.std.proofs.Common.{◌≡◌, ◌⊎◌, ℕ, ℤ, Bool, true, false, List, [], ◌∷◌, filter, Option, None, Some, refl, sym, ap, subst, ◌∙◌, inl, inr}
use Rattle.std.specs.Prelude.{Contains, if◌then◌else◌, option_and_then}
use Rattle.std.specs.Option.{option_map_or}
use Rattle.std.specs.Ordering.{int_eq}
use Rattle.std.specs.Cmp.{signed_Decides}
use Rattle.std.proofs.lemmas.Bool.{cases_Bool, false≢true}
use Rattle.timing_defs.specs.declared.kinds.Tran.{Tran}
use Rattle.timing_defs.specs.declared.kinds.Kind.{Kind}
use Rattle.timing_defs.specs.Netlist.{Node}
use Rattle.timing_rules.specs.Tests.{Test, tests_at}
use Rattle.timing_defs.specs.Kinds.{data_split}
use Rattle.timing_rules.specs.Paths.{named, node_named, clock_not_after, credit}
use Rattle.netlist_store.specs.Numbering.{Stored, IsNumbered}
use Rattle.netlist_store.specs.Linked.{IsLinked}
use Rattle.pin_graph.specs.Nodes.{node_at}
use Rattle.pin_graph.specs.Graphs.{Graphed, IsGraph}
use Rattle.timing_defs.proofs.Members.{none_in, in_cases, some_is, first_in, later_in, in_map, in_map_back, in_filter, kept_in, passes_in}
use Rattle.node_tests.specs.NodeTests.{IsClockNode, tests_numbered}
use Rattle.pessimism_credit.specs.declared.rows.TreeRow.{TreeRow}
use Rattle.path_search.specs.declared.counted.Counted.{Counted}
use Rattle.path_search.specs.declared.counted.Chosen.{Chosen}
use Rattle.path_search.specs.declared.ends.EndTest.{EndTest}
use Rattle.path_search.specs.declared.launches.LaunchNode.{LaunchNode}
use Rattle.path_search.specs.Launches.{launch_slack, is_launch_tested, launch_slacks, walk_names, IsLaunched}
use Rattle.path_search.specs.Offers.{IsOffer}
use Rattle.path_search.specs.Trees.{IsClockTree}
use Rattle.path_search.specs.Slacks.{IsEndTest, AreEndTests, edge_of_node, IsLaunchNode, credit_told, slack_where}
use Rattle.path_search.specs.Counts.{counted_edge, IsCounted, is_not_after, chosen_of, first_chosen, gives, chosen_over}
use Rattle.path_search.proofs.ClockOrder.{not_after_self, not_after_back, not_after_next}
use Rattle.path_search.proofs.OfferLaws.{credit_same, where_is, end_tests_are, same_launch}

module _ (s : Stored) (wanted : EndTest → Bool) where
  abbrev node_of : Option ℕ → Option Node
  node_of a = option_and_then (node_at s) a

  -- the chosen test is the first so far
  pub record IsChosen (best : Option Chosen) (ts : List EndTest) (c : Chosen) : Type 0 where
    pub found : (best ≡ Some c) ⊎ ((t : EndTest) × Contains ts t × (wanted t ≡ true) × (chosen_of t ≡ c))
    pub before : (b : Chosen) → best ≡ Some b → is_not_after s c.test.clock b.test.clock ≡ true
    pub first : (t : EndTest) → Contains ts t → wanted t ≡ true → is_not_after s c.test.clock t.test.clock ≡ true

  abbrev pub AreChosen : Option Chosen → List EndTest → Option Chosen → Type 0
  AreChosen best ts None = (best ≡ None) × ((t : EndTest) → Contains ts t → wanted t ≡ true → ⊥)
  AreChosen best ts (Some c) = IsChosen best ts c

  record IsFirst (best : Option Chosen) (next m : Chosen) : Type 0 where
    pub from : (best ≡ Some m) ⊎ (m ≡ next)
    pub before : (b : Chosen) → best ≡ Some b → is_not_after s m.test.clock b.test.clock ≡ true
    pub low : is_not_after s m.test.clock next.test.clock ≡ true

  first_is : (best : Option Chosen) (next : Chosen) → IsFirst best next (first_chosen s best next)
  first_is None next = record { from = inr refl; before = λ b e. absurd (cc); low = not_after_self (node_of next.test.clock) }
  first_is (Some b) next = by (is_not_after s b.test.clock next.test.clock) refl
    where
      by : (t : Bool) → is_not_after s b.test.clock next.test.clock ≡ t → IsFirst (Some b) next (if t then b else next)
      by true e = record {
        from = inl refl;
        before = λ c f. subst (λ (x : Chosen). is_not_after s b.test.clock x.test.clock ≡ true) (some_is f) (not_after_self (node_of b.test.clock));
        low = e;
      }
      by false e = record {
        from = inr refl;
        before = λ c f. subst (λ (x : Chosen). is_not_after s next.test.clock x.test.clock ≡ true) (some_is f)
            (not_after_back (node_of b.test.clock) (node_of next.test.clock) e);
        low = not_after_self (node_of next.test.clock);
      }

  pub chosen_is : (best : Option Chosen) (ts : List EndTest) → AreChosen best ts (chosen_over s wanted best ts)
  chosen_is best [] = by best refl
    where
      by : (o : Option Chosen) → best ≡ o → AreChosen best [] o
      by None e = (e, λ t c w. none_in t c)
      by (Some c) e = record {
        found = inl e;
        before = λ b f. subst (λ (x : Chosen). is_not_after s c.test.clock x.test.clock ≡ true) (some_is (sym e ∙ f)) (not_after_self (node_of c.test.clock));
        first = λ t d w. absurd (none_in t d);
      }
  chosen_is best (t ∷ ts) = elim (cases_Bool (wanted t)) [
    | inr out ↦
        subst (λ (o : Option Chosen). AreChosen best (t ∷ ts) (chosen_over s wanted o ts)) (sym (ap (λ (b : Bool). if b then Some (first_chosen s best (chosen_of t)) else best) out))
        (skipped out (chosen_over s wanted best ts) (chosen_is best ts))
    | inl kept ↦
        subst (λ (o : Option Chosen). AreChosen best (t ∷ ts) (chosen_over s wanted o ts)) (sym (ap (λ (b : Bool). if b then Some (first_chosen s best (chosen_of t)) else best) kept))
        (taken kept (first_is best (chosen_of t)) (chosen_over s wanted (Some (first_chosen s best (chosen_of t))) ts) (chosen_is (Some (first_chosen s best (chosen_of t))) ts))
  ]
    where
      skipped : wanted t ≡ false → (o : Option Chosen) → AreChosen best ts o → AreChosen best (t ∷ ts) o
      skipped out None h = (h.0, λ u c w. elim (in_cases t ts u c) [ inl same ↦ false≢true (sym out ∙ ap wanted same ∙ w) | inr d ↦ h.1 u d w ])
      skipped out (Some c) h = record {
        found = elim h.found [ inl e ↦ inl e | inr r ↦ inr (r.0, later_in t ts r.0 r.1, r.2, r.3) ];
        before = h.before;
        first = λ u d w. elim (in_cases t ts u d) [ inl same ↦ absurd (false≢true (sym out ∙ ap wanted same ∙ w)) | inr e ↦ h.first u e w ];
      }

      taken : wanted t ≡ true → IsFirst best (chosen_of t) (first_chosen s best (chosen_of t)) → (o : Option Chosen) → AreChosen (Some (first_chosen s best (chosen_of t))) ts o
          → AreChosen best (t ∷ ts) o
      taken kept m None h = (let clash : Some (first_chosen s best (chosen_of t)) ≡ None = h.0 in absurd (cc))
      taken kept m (Some c) h =
          let under = h.before (first_chosen s best (chosen_of t)) refl in
          record {
            found = found h.found;
            before = λ b e. not_after_next (node_of c.test.clock) (node_of (first_chosen s best (chosen_of t)).test.clock) (node_of b.test.clock) under (m.before b e);
            first = λ u d w. elim (in_cases t ts u d) [
              | inl same ↦
                  subst (λ (x : EndTest). is_not_after s c.test.clock x.test.clock ≡ true) same
                  (not_after_next (node_of c.test.clock) (node_of (first_chosen s best (chosen_of t)).test.clock) (node_of t.test.clock) under m.low)
              | inr e ↦ h.first u e w
            ];
          }
        where
          found : (Some (first_chosen s best (chosen_of t)) ≡ Some c) ⊎ ((u : EndTest) × Contains ts u × (wanted u ≡ true) × (chosen_of u ≡ c))
              → (best ≡ Some c) ⊎ ((u : EndTest) × Contains (t ∷ ts) u × (wanted u ≡ true) × (chosen_of u ≡ c))
          found (inr r) = inr (r.0, later_in t ts r.0 r.1, r.2, r.3)
          found (inl e) = at m.from
            where
              at : (best ≡ Some (first_chosen s best (chosen_of t))) ⊎ (first_chosen s best (chosen_of t) ≡ chosen_of t)
                  → (best ≡ Some c) ⊎ ((u : EndTest) × Contains (t ∷ ts) u × (wanted u ≡ true) × (chosen_of u ≡ c))
              at (inl b) = inl (b ∙ e)
              at (inr here) = inr (t, first_in t ts, kept, sym here ∙ some_is e)

module _ (g : Graphed) (num : IsNumbered g.stored) (linked : IsLinked g.stored.design) (is : IsGraph g) (rows : List TreeRow) (tree : IsClockTree g rows)
    (kind : Kind) (number end : ℕ) (l : LaunchNode) (launch : IsLaunchNode g (data_split kind) number l) (endnode : Node) (its : node_at g.stored end ≡ Some endnode)
    (tests : List EndTest) (are : AreEndTests g (named endnode) tests (tests_numbered g.stored kind end)) (offer : ℤ) where
  abbrev wanted : EndTest → Bool
  wanted t = gives g.stored.design kind rows l offer t

  abbrev slack_at : Test → ℤ
  slack_at test = launch_slack g.stored.design kind (named launch.node) (edge_of_node l) l.time.0 (named endnode) test

  abbrev tested : Test → Bool
  tested test = is_launch_tested g.stored.design kind (named launch.node) (edge_of_node l) (named endnode) test

  abbrev all_slacks : List (Test × ℤ)
  all_slacks = launch_slacks g.stored.design kind (named launch.node) (edge_of_node l) l.time.0 (named endnode)

  abbrev with_slack : Test → Test × ℤ
  with_slack test = (test, slack_at test)

  slack_wanted : (t : EndTest) → wanted t ≡ true → slack_where g.stored.design kind rows l t ≡ Some offer
  slack_wanted t e = by (slack_where g.stored.design kind rows l t) refl e
    where
      by : (o : Option ℤ) → slack_where g.stored.design kind rows l t ≡ o → option_map_or (λ x. int_eq x offer) o false ≡ true → slack_where g.stored.design kind rows l t ≡ Some offer
      by None f h = absurd (false≢true h)
      by (Some x) f h = f ∙ ap Some ((signed_Decides x offer).0 h)

  wanted_by : (t : EndTest) → slack_where g.stored.design kind rows l t ≡ Some offer → wanted t ≡ true
  wanted_by t e = ap (λ o. option_map_or (λ x. int_eq x offer) o false) e ∙ (signed_Decides offer offer).1 refl

  to_test : (ts : List EndTest) (xs : List Test) → AreEndTests g (named endnode) ts xs → (t : EndTest) → Contains ts t
      → (test : Test) × Contains xs test × IsEndTest g (named endnode) t test
  to_test [] xs h t c = absurd (none_in t c)
  to_test (y ∷ ys) [] h t c = absurd h
  to_test (y ∷ ys) (x ∷ xs) h t c = elim (in_cases y ys t c) [
    | inl same ↦ (x, first_in x xs, subst (λ (u : EndTest). IsEndTest g (named endnode) u x) same h.0)
    | inr d ↦ let r = to_test ys xs h.1 t d in (r.0, later_in x xs r.0 r.1, r.2)
  ]

  to_told : (ts : List EndTest) (xs : List Test) → AreEndTests g (named endnode) ts xs → (test : Test) → Contains xs test
      → (t : EndTest) × Contains ts t × IsEndTest g (named endnode) t test
  to_told ts [] h test c = absurd (none_in test c)
  to_told [] (x ∷ xs) h test c = absurd h
  to_told (y ∷ ys) (x ∷ xs) h test c = elim (in_cases x xs test c) [
    | inl same ↦ (y, first_in y ys, subst (λ (u : Test). IsEndTest g (named endnode) y u) same h.0)
    | inr d ↦ let r = to_told ys xs h.1 test d in (r.0, later_in y ys r.0 r.1, r.2)
  ]

  its_tests : option_map_or (tests_at g.stored.design kind) (node_named g.stored.design (named endnode)) [] ≡ tests_numbered g.stored kind end
  its_tests = end_tests_are g num linked is rows tree kind number end endnode its tests are

  pair_slack : (t : EndTest) (test : Test) → IsEndTest g (named endnode) t test → slack_where g.stored.design kind rows l t ≡ (if tested test then Some (slack_at test) else None)
  pair_slack t test pair = where_is g num linked is rows tree kind number l launch (named endnode) t test pair

  entry_of : (t : EndTest) (test : Test) → IsEndTest g (named endnode) t test → Contains (tests_numbered g.stored kind end) test
      → slack_where g.stored.design kind rows l t ≡ Some offer → Contains all_slacks (test, offer)
  entry_of t test pair c e = by (tested test) refl (sym (pair_slack t test pair) ∙ e)
    where
      by : (b : Bool) → tested test ≡ b → (if b then Some (slack_at test) else None) ≡ Some offer → Contains all_slacks (test, offer)
      by false f h = absurd (cc)
      by true f h =
          let there = subst (λ (xs : List Test). Contains xs test) (sym its_tests) c in
          subst (λ (x : ℤ). Contains all_slacks (test, x)) (some_is h)
          (in_map with_slack (filter tested (option_map_or (tests_at g.stored.design kind) (node_named g.stored.design (named endnode)) [])) test
          (in_filter tested (option_map_or (tests_at g.stored.design kind) (node_named g.stored.design (named endnode)) []) test there f))

  record IsEntry (test : Test) (x : ℤ) : Type 0 where
    pub told : EndTest
    pub within : Contains tests told
    pub pair : IsEndTest g (named endnode) told test
    pub slack : slack_where g.stored.design kind rows l told ≡ Some x

  entry_back : (test : Test) (x : ℤ) → Contains all_slacks (test, x) → IsEntry test x
  entry_back test x c =
      let all = option_map_or (tests_at g.stored.design kind) (node_named g.stored.design (named endnode)) [] in
      let m = in_map_back with_slack (filter tested all) (test, x) c in
      let same : m.item ≡ test = ap (λ (p : Test × ℤ). p.0) m.same in
      let slack : slack_at m.item ≡ x = ap (λ (p : Test × ℤ). p.1) m.same in
      let listed : Contains (tests_numbered g.stored kind end) m.item = subst (λ (xs : List Test). Contains xs m.item) its_tests (kept_in tested all m.item m.within) in
      let t = to_told tests (tests_numbered g.stored kind end) are m.item listed in
      record {
        told = t.0;
        within = t.1;
        pair = subst (λ (u : Test). IsEndTest g (named endnode) t.0 u) same t.2;
        slack = pair_slack t.0 m.item t.2 ∙ ap (λ (b : Bool). if b then Some (slack_at m.item) else None) (passes_in tested all m.item m.within) ∙ ap Some slack;
      }

  clock_is : (t : EndTest) (test : Test) → IsEndTest g (named endnode) t test → option_and_then (node_at g.stored) t.test.clock ≡ test.clock
  clock_is t test pair = by t.test.clock test.clock pair.its.clock
    where
      by : (a : Option ℕ) (b : Option Node) → IsClockNode g.stored a b → option_and_then (node_at g.stored) a ≡ b
      by None None h = refl
      by (Some n) (Some m) h = h
      by None (Some m) h = absurd h
      by (Some n) None h = absurd h

  module _ (o : IsOffer g.stored.design kind (named launch.node) (named endnode) offer) where
    same_edge : (edge_of_node l ≡ o.edge) × (l.time.0 ≡ o.time)
    same_edge = same_launch g num linked is rows tree kind number end l launch o.edge o.time o.launched

    same_slacks : launch_slacks g.stored.design kind (named launch.node) o.edge o.time (named endnode) ≡ all_slacks
    same_slacks = λ k. launch_slacks g.stored.design kind (named launch.node) (sym same_edge.0 k) (sym same_edge.1 k) (named endnode)

    pub none_chosen : AreChosen g.stored wanted None tests None → ⊥
    none_chosen h =
        let e = entry_back o.test offer (subst (λ (xs : List (Test × ℤ)). Contains xs (o.test, offer)) same_slacks o.within) in
        h.1 e.told e.within (wanted_by e.told e.slack)

    pub counted_is : (c : Chosen) → IsChosen g.stored wanted None tests c → (out : Counted) → out.launch_clock ≡ l.launch.clock → out.launch_tran ≡ l.tran → out.time ≡ l.time
        → out.capture_clock ≡ c.test.capture_clock → out.capture_tran ≡ c.test.capture_tran → out.credit.0 ≡ credit_told rows l.place c.place
        → IsCounted g.stored kind (named launch.node) (named endnode) offer out
    counted_is c h out clock tran time capture_clock capture_tran its_credit = by h.found
      where
        edge : counted_edge out ≡ edge_of_node l
        edge = λ k. (clock k, tran k)

        at_time : out.time.0 ≡ l.time.0
        at_time = λ k. (time k).0

        slacks : all_slacks ≡ launch_slacks g.stored.design kind (named launch.node) (counted_edge out) out.time.0 (named endnode)
        slacks = λ k. launch_slacks g.stored.design kind (named launch.node) (sym edge k) (sym at_time k) (named endnode)

        by : (None ≡ Some c) ⊎ ((t : EndTest) × Contains tests t × (wanted t ≡ true) × (chosen_of t ≡ c))
            → IsCounted g.stored kind (named launch.node) (named endnode) offer out
        by (inl clash) = absurd (cc)
        by (inr r) =
            let p = to_test tests (tests_numbered g.stored kind end) are r.0 r.1 in
            record {
              launched =
                  subst (λ (x : (ℕ × Tran) × ℤ). IsLaunched g.stored.design (data_split kind) x.0 (named launch.node) x.1) (λ k. (sym edge k, sym at_time k)) launch.launched;
              test = p.0;
              within = subst (λ (xs : List (Test × ℤ)). Contains xs (p.0, offer)) slacks (entry_of r.0 p.0 p.2 p.1 (slack_wanted r.0 r.2));
              first = λ other t d.
                  (let e = entry_back other t (subst (λ (xs : List (Test × ℤ)). Contains xs (other, t)) (sym slacks) d) in (
                    o.least other t (subst (λ (xs : List (Test × ℤ)). Contains xs (other, t)) (sym same_slacks) (subst (λ (xs : List (Test × ℤ)). Contains xs (other, t)) (sym slacks) d)),
                    λ q. (let n = h.first e.told e.within (wanted_by e.told (e.slack ∙ ap Some q)) in
                        (λ k. clock_not_after (clock_told r.0 c p.0 p.2 r.3 k) (sym (clock_is e.told other e.pair) k)) ∙ n),
                  ));
              capture =
                  (λ k. (capture_clock k, capture_tran k)) ∙ ap (λ (x : Chosen). (x.test.capture_clock, x.test.capture_tran)) (sym r.3) ∙ p.2.its.capture;
              its_credit =
                  its_credit ∙ ap (λ (x : Chosen). credit_told rows l.place x.place) (sym r.3)
                  ∙ credit_same g num linked is rows tree kind number l launch (named endnode) r.0 p.0 p.2
                  ∙ (λ k. credit g.stored.design (walk_names g.stored.design (named launch.node)) (sym edge k) p.0);
            }
          where
            clock_told : (t : EndTest) (c : Chosen) (test : Test) → IsEndTest g (named endnode) t test → chosen_of t ≡ c → test.clock ≡ option_and_then (node_at g.stored) c.test.clock
            clock_told t c test pair e = sym (clock_is t test pair) ∙ ap (λ (x : Chosen). option_and_then (node_at g.stored) x.test.clock) e
