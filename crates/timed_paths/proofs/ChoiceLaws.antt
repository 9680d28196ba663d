-- The first of the tests that leave a path its slack is one by which it holds.

use Rattle.std.proofs.Common.{◌≡◌, ℕ, ℤ, pos, ◌+ℤ◌, ◌-ℤ◌, ◌≤ℤ◌, ◌⊎◌, ◌<◌, ◌+◌, Bool, true, false, List, [], ◌∷◌, ◌++◌, map, filter, length, take, get_or, Option, None, Some, refl, sym, ap, subst, ◌∙◌, inl, inr, arith}
use Rattle.std.specs.Prelude.{Contains, All, IfSome, nat_eq, ◌&&◌, if◌then◌else◌, option_and_then}
use Rattle.std.specs.Option.{option_map_or, unwrap_or}
use Rattle.std.specs.Ordering.{int_eq}
use Rattle.std.specs.Cmp.{signed_Decides}
use Rattle.std.proofs.lemmas.Bool.{cases_Bool, false≢true, and_parts, and_from, eqb-true, eq-eqb}
use Rattle.std.proofs.lemmas.Int.{ints}
use Rattle.std.proofs.lemmas.List.{take_more, get_or_default}
use Rattle.std.proofs.lemmas.List.Elements.{All-contains, Contains-append_cases, Contains-append_left, Contains-append_right}
use Rattle.timing_defs.specs.declared.kinds.Tran.{Tran}
use Rattle.timing_defs.specs.declared.kinds.Kind.{Kind}
use Rattle.timing_defs.specs.declared.kinds.Kind.TheVariants.{Setup, Hold}
use Rattle.timing_defs.specs.declared.rows.Path.{Path}
use Rattle.timing_defs.specs.declared.design.Design.{Design}
use Rattle.timing_defs.specs.Netlist.{Node, same_tran}
use Rattle.timing_defs.specs.Kinds.{data_split}
use Rattle.timing_defs.proofs.Members.{none_in, in_cases, first_in, some_is, in_map, in_map_back, in_filter, kept_in, passes_in}
use Rattle.timing_rules.specs.Rules.{is_tested}
use Rattle.timing_rules.specs.Tests.{Test, tests_at, uncertainty_on}
use Rattle.timing_rules.specs.Paths.{Named, node_named, launch_of, capture_of, last_of, credit, moved, slack_by, slack_of, tests_path, slacks_from, path_slacks, path_named, clock_not_after, Counts, Holds}
use Rattle.timing_rules.specs.Stages.{length_of}
use Rattle.netlist_store.specs.Numbering.{Stored, IsNumbered}
use Rattle.pin_graph.specs.Nodes.{node_at}
use Rattle.node_tests.specs.declared.node_test.NodeTest.{NodeTest}
use Rattle.node_tests.specs.NodeTests.{tests_numbered}
use Rattle.path_search.proofs.ClockOrder.{not_after_self, not_after_back, not_after_next}
use Rattle.path_search.specs.Counts.{is_not_after}
use Rattle.timed_paths.specs.declared.choosing.Course.{Course}
use Rattle.timed_paths.specs.Choices.{first_of, same_edge, required_by, required_of, slack_left, leaves, is_wanted_by, is_wanted, IsCourse, IsFirst, IsCounting}
use Rattle.timed_paths.specs.Ends.{edge_of_path, capture_of_path}
use Rattle.timed_paths.specs.Found.{IsHeld, IsEndOf}
use Rattle.timed_paths.specs.Numbers.{number_named}
use Rattle.timed_paths.specs.TestNumbers.{test_of, IsKnownTest}
use Rattle.timed_paths.proofs.NumberLaws.{same_trans, tran_self, numbered_node}
use Rattle.timed_paths.proofs.PathLaws.{first, more, size, names, slacks_are, long}

edge_same : (a b : ℕ × Tran) → same_edge a b ≡ true → a ≡ b
edge_same a b e =
    let q = and_parts (nat_eq a.0 b.0) (same_tran a.1 b.1) e in
    let f = eqb-true a.0 b.0 q.0 in
    let g = same_trans a.1 b.1 q.1 in
    λ i. (f i, g i)

edge_self : (a b : ℕ × Tran) → a ≡ b → same_edge a b ≡ true
edge_self a b e = subst (λ (c : ℕ × Tran). same_edge a c ≡ true) e (and_from (nat_eq a.0 a.0) (same_tran a.1 a.1) (eq-eqb a.0 a.0 refl) (tran_self a.1))

-- the slack is what the required time leaves
pub left_is : (kind : Kind) (test : Test) (sep unc cr len : ℤ) → slack_by kind test sep unc cr len ≡ slack_left kind (required_by kind test sep unc cr) len
left_is Setup test sep unc cr len =
    let e = test.early in let n = test.need in
    let f : e +ℤ sep -ℤ n -ℤ unc +ℤ cr -ℤ len ≡ sep +ℤ e -ℤ n -ℤ unc +ℤ cr -ℤ len = omega (arith, ints) in f
left_is Hold test sep unc cr len =
    let l = test.late in let n = test.need in
    let f : len -ℤ l -ℤ sep -ℤ n -ℤ unc +ℤ cr ≡ len -ℤ (sep +ℤ l +ℤ n +ℤ unc -ℤ cr) = omega (arith, ints) in f

-- what a wanted test gives
record IsWanted (d : Design) (kind : Kind) (p : Path) (len : ℤ) (n : Named) (ms : List Named) (t : Test) : Type 0 where
  pub tested : tests_path d kind n ms (edge_of_path p) t ≡ true
  pub slack : slack_of d kind n ms (edge_of_path p) len t ≡ p.slack.0
  pub capture : t.capture ≡ capture_of_path p
  pub its_credit : credit d (n ∷ ms) (edge_of_path p) t ≡ p.credit.0

module _ (d : Design) (kind : Kind) (p : Path) (len : ℤ) (n : Named) (ms : List Named) (t : Test) where
  abbrev sep : ℤ
  sep = moved d kind (launch_of d n ms (edge_of_path p)) (capture_of d (last_of n ms) t) (edge_of_path p) t.capture

  abbrev unc : ℤ
  unc = uncertainty_on d kind t.capture.0

  abbrev tested : Bool
  tested = tests_path d kind n ms (edge_of_path p) t

  abbrev needed : ℤ → ℤ
  needed cr = required_by kind t sep unc cr

  abbrev left : Bool → Bool
  left b = leaves kind (if b then Some (needed p.credit.0) else None) len p.slack.0

  wanted_back : is_wanted_by d kind p len (n ∷ ms) t ≡ true → IsWanted d kind p len n ms t
  wanted_back e =
      let a = and_parts (same_edge t.capture (capture_of_path p) && int_eq (credit d (n ∷ ms) (edge_of_path p) t) p.credit.0) (left tested) e in
      let b = and_parts (same_edge t.capture (capture_of_path p)) (int_eq (credit d (n ∷ ms) (edge_of_path p) t) p.credit.0) a.0 in
      let cr = (signed_Decides (credit d (n ∷ ms) (edge_of_path p) t) p.credit.0).0 b.1 in
      elim (cases_Bool tested) [
        | inr differ ↦ absurd (false≢true (sym (ap left differ) ∙ a.1))
        | inl alike ↦
            let s = (signed_Decides (slack_left kind (needed p.credit.0) len) p.slack.0).0 (sym (ap left alike) ∙ a.1) in
            record {
              tested = alike;
              slack = left_is kind t sep unc (credit d (n ∷ ms) (edge_of_path p) t) len ∙ ap (λ c. slack_left kind (needed c) len) cr ∙ s;
              capture = edge_same t.capture (capture_of_path p) b.0;
              its_credit = cr;
            }
      ]

  wanted_by : IsWanted d kind p len n ms t → is_wanted_by d kind p len (n ∷ ms) t ≡ true
  wanted_by w =
      let s : slack_left kind (needed p.credit.0) len ≡ p.slack.0 =
      ap (λ c. slack_left kind (needed c) len) (sym w.its_credit) ∙ sym (left_is kind t sep unc (credit d (n ∷ ms) (edge_of_path p) t) len) ∙ w.slack in
      and_from (same_edge t.capture (capture_of_path p) && int_eq (credit d (n ∷ ms) (edge_of_path p) t) p.credit.0) (left tested)
      (and_from (same_edge t.capture (capture_of_path p)) (int_eq (credit d (n ∷ ms) (edge_of_path p) t) p.credit.0)
      (edge_self t.capture (capture_of_path p) w.capture) ((signed_Decides (credit d (n ∷ ms) (edge_of_path p) t) p.credit.0).1 w.its_credit))
      (ap left w.tested ∙ (signed_Decides (slack_left kind (needed p.credit.0) len) p.slack.0).1 s)

module _ (s : Stored) (kind : Kind) (p : Path) (test : Test) (h : Holds s.design kind p test) (c : Course) (course : IsCourse s kind p c) (end : ℕ) (e : IsEndOf s p end)
    (found : List NodeTest) (are : map (test_of s) found ≡ tests_numbered s kind end) where
  abbrev d : Design
  d = s.design

  abbrev n : Named
  n = first d kind p test h

  abbrev ms : List Named
  ms = more d kind p test h

  abbrev len : ℤ
  len = size d kind p test h

  all : List Test
  all = option_map_or (tests_at d kind) (node_named d (last_of n ms)) []

  all_are : all ≡ map (test_of s) found
  unfolding all
  all_are = ap (λ o. option_map_or (tests_at d kind) o []) (sym (numbered_node s (last_of n ms) end (e n ms (names d kind p test h)))) ∙ sym are

  length_is : c.length.0 ≡ len
  length_is = some_is (sym (course.long n ms (names d kind p test h)) ∙ long d kind p test h)

  abbrev wanted : NodeTest → Bool
  wanted t = is_wanted s kind p c t

  wanted_is : (t : NodeTest) → wanted t ≡ is_wanted_by d kind p len (n ∷ ms) (test_of s t)
  wanted_is t = λ i. is_wanted_by d kind p (length_is i) (names d kind p test h i) (test_of s t)

  abbrev with_slack : Test → Test × ℤ
  with_slack t = (t, slack_of d kind n ms (edge_of_path p) len t)

  abbrev tested_here : Test → Bool
  tested_here t = tests_path d kind n ms (edge_of_path p) t

  slacks : path_slacks d kind (path_named p) ≡ map with_slack (filter tested_here all)
  unfolding all
  slacks = slacks_are d kind p test h

  -- an entry of the path's slacks is a test that is found
  record IsEntry (other : Test) (x : ℤ) : Type 0 where
    told : NodeTest
    within : Contains found told
    same : test_of s told ≡ other
    tested : tested_here other ≡ true
    slack : slack_of d kind n ms (edge_of_path p) len other ≡ x

  entry_back : (other : Test) (x : ℤ) → Contains (path_slacks d kind (path_named p)) (other, x) → IsEntry other x
  entry_back other x k =
      let m = in_map_back with_slack (filter tested_here all) (other, x) (subst (λ (xs : List (Test × ℤ)). Contains xs (other, x)) slacks k) in
      let same : m.item ≡ other = ap (λ (q : Test × ℤ). q.0) m.same in
      let slack : slack_of d kind n ms (edge_of_path p) len m.item ≡ x = ap (λ (q : Test × ℤ). q.1) m.same in
      let listed = subst (λ (xs : List Test). Contains xs m.item) all_are (kept_in tested_here all m.item m.within) in
      let f = in_map_back (test_of s) found m.item listed in
      record {
        told = f.item;
        within = f.within;
        same = f.same ∙ same;
        tested = ap tested_here (sym same) ∙ passes_in tested_here all m.item m.within;
        slack = ap (λ (t : Test). slack_of d kind n ms (edge_of_path p) len t) (sym same) ∙ slack;
      }

  entry_in : (t : NodeTest) → Contains found t → (w : IsWanted d kind p len n ms (test_of s t)) → Contains (path_slacks d kind (path_named p)) (test_of s t, p.slack.0)
  entry_in t k w =
      let listed = subst (λ (xs : List Test). Contains xs (test_of s t)) (sym all_are) (in_map (test_of s) found t k) in
      subst (λ (xs : List (Test × ℤ)). Contains xs (test_of s t, p.slack.0)) (sym slacks)
      (subst (λ (x : ℤ). Contains (map with_slack (filter tested_here all)) (test_of s t, x)) w.slack
      (in_map with_slack (filter tested_here all) (test_of s t) (in_filter tested_here all (test_of s t) listed w.tested)))

  -- the test by which the path holds is found, and is wanted
  its : IsEntry test p.slack.0
  its = entry_back test p.slack.0 h.0.0

  its_wanted : wanted its.told ≡ true
  its_wanted =
      wanted_is its.told
      ∙ ap (is_wanted_by d kind p len (n ∷ ms)) its.same
      ∙ wanted_by d kind p len n ms test (record {
        tested = its.tested;
        slack = its.slack;
        capture = sym h.3;
        its_credit = ap (λ (xs : List Named). credit d xs (edge_of_path p) test) (sym (names d kind p test h)) ∙ sym h.4;
      })

  pub some_first : IsFirst s wanted found None → ⊥
  some_first none = none its.told its.within its_wanted

  pub first_holds : (t : NodeTest) → IsFirst s wanted found (Some t) → Holds d kind p (test_of s t)
  first_holds t f =
      let w = wanted_back d kind p len n ms (test_of s t) (sym (wanted_is t) ∙ f.1) in (
        (
          entry_in t f.0 w,
          λ other x k. (
            (h.0.1 other x k).0,
            λ q. not_after_next (test_of s t).clock test.clock other.clock
                (subst (λ (u : Test). clock_not_after (test_of s t).clock u.clock ≡ true) its.same (f.2 its.told its.within its_wanted))
                ((h.0.1 other x k).1 q),
          ),
        ),
        h.1,
        h.2,
        sym w.capture,
        sym (ap (λ (xs : List Named). credit d xs (edge_of_path p) (test_of s t)) (names d kind p test h) ∙ w.its_credit),
      )

-- a further test
module _ (s : Stored) (wanted : NodeTest → Bool) where
  in_snoc : (ts : List NodeTest) (x t : NodeTest) → Contains (ts ++ x ∷ []) t → Contains ts t ⊎ (x ≡ t)
  in_snoc ts x t c = elim (Contains-append_cases ts (x ∷ []) t c) [
    | inl h ↦ inl h
    | inr h ↦ elim (in_cases x [] t h) [ inl same ↦ inr same | inr none ↦ absurd (none_in t none) ]
  ]

  first_snoc : (ts : List NodeTest) (best : Option NodeTest) (x : NodeTest) (b : Bool) → wanted x ≡ b → IsFirst s wanted ts best
      → IsFirst s wanted (ts ++ x ∷ []) (if b then Some (first_of s best x) else best)
  first_snoc ts None x false e had = λ t c w. elim (in_snoc ts x t c) [
    | inl h ↦ had t h w
    | inr same ↦ absurd (false≢true (sym e ∙ ap wanted same ∙ w))
  ]
  first_snoc ts (Some f) x false e had = (
    Contains-append_left ts (x ∷ []) f had.0,
    had.1,
    λ t c w. elim (in_snoc ts x t c) [
      | inl h ↦ had.2 t h w
      | inr same ↦ absurd (false≢true (sym e ∙ ap wanted same ∙ w))
    ],
  )
  first_snoc ts None x true e had = (
    Contains-append_right ts (x ∷ []) x (first_in x []),
    e,
    λ t c w. elim (in_snoc ts x t c) [
      | inl h ↦ absurd (had t h w)
      | inr same ↦ subst (λ (u : NodeTest). clock_not_after (test_of s x).clock (test_of s u).clock ≡ true) same (not_after_self (test_of s x).clock)
    ],
  )
  first_snoc ts (Some f) x true e had = by (is_not_after s f.clock x.clock) refl
    where
      by : (k : Bool) → is_not_after s f.clock x.clock ≡ k → IsFirst s wanted (ts ++ x ∷ []) (Some (if k then f else x))
      by true g = (
        Contains-append_left ts (x ∷ []) f had.0,
        had.1,
        λ t c w. elim (in_snoc ts x t c) [
          | inl h ↦ had.2 t h w
          | inr same ↦ subst (λ (u : NodeTest). clock_not_after (test_of s f).clock (test_of s u).clock ≡ true) same g
        ],
      )
      by false g = (
        Contains-append_right ts (x ∷ []) x (first_in x []),
        e,
        λ t c w. elim (in_snoc ts x t c) [
          | inl h ↦ not_after_next (test_of s x).clock (test_of s f).clock (test_of s t).clock (not_after_back (test_of s f).clock (test_of s x).clock g) (had.2 t h w)
          | inr same ↦ subst (λ (u : NodeTest). clock_not_after (test_of s x).clock (test_of s u).clock ≡ true) same (not_after_self (test_of s x).clock)
        ],
      )

  pub first_more : (ts : List NodeTest) (i : ℕ) (x : NodeTest) (best : Option NodeTest) (b : Bool) (new : Option NodeTest) → i < length ts → x ≡ get_or ts i x → b ≡ wanted x
      → new ≡ (if b then Some (first_of s best x) else best) → IsFirst s wanted (take i ts) best → IsFirst s wanted (take (i + 1) ts) new
  first_more ts i x best b new low at e put had =
      subst (λ (o : Option NodeTest). IsFirst s wanted (take (i + 1) ts) o) (sym put)
      (subst (λ (xs : List NodeTest). IsFirst s wanted xs (if b then Some (first_of s best x) else best))
      (sym (take_more ts i x low ∙ ap (λ (y : NodeTest). take i ts ++ y ∷ []) (sym at)))
      (first_snoc (take i ts) best x b (sym e) had))

  pub first_more_at : (ts : List NodeTest) (i : ℕ) (x : NodeTest) (best : Option NodeTest) (b : Bool) (new : Option NodeTest) → i < length ts → b ≡ wanted (get_or ts i x)
      → new ≡ (if b then Some (first_of s best (get_or ts i x)) else best) → IsFirst s wanted (take i ts) best → IsFirst s wanted (take (i + 1) ts) new
  first_more_at ts i x best b new low e put had =
      first_more ts i (get_or ts i x) best b new low (get_or_default ts i x (get_or ts i x) low) e put had

  pub first_none : IsFirst s wanted [] None
  first_none = λ t k w. absurd (none_in t k)

-- the same of what is chosen of a list that is the tests
module _ (s : Stored) (kind : Kind) (p : Path) (h : IsHeld s kind p) (c : Course) (course : IsCourse s kind p c) (end : ℕ) (e : IsEndOf s p end)
    (found : List NodeTest) (are : map (test_of s) found ≡ tests_numbered s kind end) where
  chosen_here : (xs : List NodeTest) → xs ≡ found → (o : Option NodeTest) → IsFirst s (is_wanted s kind p c) xs o → IsFirst s (is_wanted s kind p c) found o
  chosen_here xs same o f = subst (λ (ys : List NodeTest). IsFirst s (is_wanted s kind p c) ys o) same f

  pub some_gone : (xs : List NodeTest) → xs ≡ found → (o : Option NodeTest) → IsFirst s (is_wanted s kind p c) xs o → o ≡ None → ⊥
  some_gone xs same o f none =
      some_first s kind p h.test h.holds c course end e found are
      (subst (λ (q : Option NodeTest). IsFirst s (is_wanted s kind p c) found q) none (chosen_here xs same o f))

  pub counting_is : All (IsKnownTest s) found → (xs : List NodeTest) → xs ≡ found → (o : Option NodeTest) → IsFirst s (is_wanted s kind p c) xs o → (t : NodeTest) → o ≡ Some t → IsCounting s kind p t
  counting_is known xs same o f t some =
      let first = subst (λ (q : Option NodeTest). IsFirst s (is_wanted s kind p c) found q) some (chosen_here xs same o f) in
      record { known = All-contains (IsKnownTest s) found t known first.0; holds = first_holds s kind p h.test h.holds c course end e found are t first }

-- what is chosen of two known tests is known
pub first_known : (s : Stored) (best : Option NodeTest) (next : NodeTest) → IfSome best (IsKnownTest s) → IsKnownTest s next → IsKnownTest s (first_of s best next)
first_known s None next b n = n
first_known s (Some t) next b n = by (is_not_after s t.clock next.clock)
  where
    by : (k : Bool) → IsKnownTest s (if k then t else next)
    by true = b
    by false = n
