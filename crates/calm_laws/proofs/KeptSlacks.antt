-- The slack of an endpoint whose nodes an edit leaves with all that leads to them stays as it is.

use Rattle.std.proofs.Common.{◌≡◌, ◌⊎◌, ℕ, ℤ, pos, ◌+ℤ◌, ◌-ℤ◌, ◌≤ℤ◌, Bool, true, false, not, List, [], ◌∷◌, map, filter, Option, None, Some, refl, sym, ap, subst, ◌∙◌, inl, inr}
use Rattle.std.specs.Prelude.{option_map, option_and_then, if◌then◌else◌}
use Rattle.std.specs.List.{Contains}
use Rattle.std.specs.Option.{option_map_or}
use Rattle.std.specs.Str.{bytes_eq}
use Rattle.std.proofs.lemmas.Bool.{cases_Bool}
use Rattle.std.proofs.lemmas.Option.{none-some}
use Rattle.timing_defs.specs.declared.kinds.Split.{Split}
use Rattle.timing_defs.specs.declared.kinds.Tran.{Tran}
use Rattle.timing_defs.specs.declared.kinds.Kind.{Kind}
use Rattle.timing_defs.specs.declared.kinds.Kind.TheVariants.{Setup, Hold}
use Rattle.timing_defs.specs.declared.constraints.Constraints.{Constraints}
use Rattle.timing_defs.specs.declared.design.Design.{Design}
use Rattle.timing_defs.specs.RowTimes.{plus_some}
use Rattle.timing_rules.specs.Rules.{is_tested}
use Rattle.timing_rules.specs.Tests.{Test, uncertainty_on}
use Rattle.timing_defs.specs.Kinds.{data_split}
use Rattle.timing_rules.specs.Paths.{Named, named, same_named, delay_between, walk_delay, last_of, start_of, is_network_named, launch_node, launch_of, capture_of, owner_named, last_common, spread_at, credit, moved, slack_by, slack_of, tests_path, slacks_from, path_slacks, ends_at, IsSlack}
use Rattle.timing_defs.proofs.SameNames.{same_is}
use Rattle.timing_defs.proofs.Members.{none_in, in_cases, first_in, later_in}
use Rattle.calm_laws.specs.Quiet.{IsSameTest, AreSameTests, tests_named, AreQuiet, IsQuietEnd}

-- lists of tests and slacks, side by side
abbrev IsSameSlack : Test × ℤ → Test × ℤ → Type 0
IsSameSlack a b = b.1 ≡ a.1

abbrev AreSameSlacks : List (Test × ℤ) → List (Test × ℤ) → Type 0
AreSameSlacks [] [] = Unit {0}
AreSameSlacks [] (b ∷ bs) = ⊥
AreSameSlacks (a ∷ more) [] = ⊥
AreSameSlacks (a ∷ more) (b ∷ bs) = IsSameSlack a b × AreSameSlacks more bs

slacks_none : (xs : List (Test × ℤ)) → AreSameSlacks [] xs → xs ≡ []
slacks_none [] h = refl
slacks_none (x ∷ xs) h = absurd h

-- a slack of one list is one of the other
found_after : (xs ys : List (Test × ℤ)) → AreSameSlacks xs ys → (test : Test) (s : ℤ) → Contains xs (test, s) → (other : Test) × Contains ys (other, s)
found_after [] ys h test s c = absurd (none_in (test, s) c)
found_after (x ∷ xs) [] h test s c = absurd h
found_after (x ∷ xs) (y ∷ ys) h test s c = elim (in_cases x xs (test, s) c) [
  | inl e ↦
      let same : y.1 ≡ s = h.0 ∙ ap (λ (p : Test × ℤ). p.1) e in
      (y.0, subst (λ (t : ℤ). Contains (y ∷ ys) (y.0, t)) same (first_in y ys))
  | inr d ↦ let r = found_after xs ys h.1 test s d in (r.0, later_in y ys (r.0, s) r.1)
]

found_before : (xs ys : List (Test × ℤ)) → AreSameSlacks xs ys → (test : Test) (s : ℤ) → Contains ys (test, s) → (other : Test) × Contains xs (other, s)
found_before [] [] h test s c = absurd (none_in (test, s) c)
found_before [] (y ∷ ys) h test s c = absurd h
found_before (x ∷ xs) [] h test s c = absurd h
found_before (x ∷ xs) (y ∷ ys) h test s c = elim (in_cases y ys (test, s) c) [
  | inl e ↦
      let same : x.1 ≡ s = sym h.0 ∙ ap (λ (p : Test × ℤ). p.1) e in
      (x.0, subst (λ (t : ℤ). Contains (x ∷ xs) (x.0, t)) same (first_in x xs))
  | inr d ↦ let r = found_before xs ys h.1 test s d in (r.0, later_in x xs (r.0, s) r.1)
]

-- both are there
plus_none : (x : Option ℤ) → plus_some x None ≡ None
plus_none None = refl
plus_none (Some x) = refl

plus_left : (x y : Option ℤ) (s : ℤ) → plus_some x y ≡ Some s → (a : ℤ) × (x ≡ Some a)
plus_left None y s e = absurd (cc)
plus_left (Some a) y s e = (a, refl)

module _ (d d2 : Design) (quiet : Named → Bool) (are : AreQuiet d d2 quiet) where
  -- the nodes of a walk
  abbrev AreAllQuiet : Named → List Named → Type 0
  AreAllQuiet n [] = quiet n ≡ true
  AreAllQuiet n (m ∷ ms) = (quiet n ≡ true) × AreAllQuiet m ms

  first_quiet : (n : Named) (ms : List Named) → AreAllQuiet n ms → quiet n ≡ true
  first_quiet n [] h = h
  first_quiet n (m ∷ ms) h = h.0

  record IsSameWalk (split : Split) (n : Named) (ms : List Named) : Type 0 where
    pub delay : walk_delay d2 split n ms ≡ walk_delay d split n ms
    pub all : (s : ℤ) → walk_delay d split n ms ≡ Some s → AreAllQuiet n ms

  longer : (split : Split) (n m : Named) (ms : List Named) → IsSameWalk split m ms → IsSameWalk split n (m ∷ ms)
  longer split n m ms rest = by (walk_delay d split m ms) refl
    where
      by : (o : Option ℤ) → walk_delay d split m ms ≡ o → IsSameWalk split n (m ∷ ms)
      by None e = record {
        delay =
            ap (plus_some (delay_between d2 split n m)) (rest.delay ∙ e) ∙ plus_none (delay_between d2 split n m)
            ∙ sym (ap (plus_some (delay_between d split n m)) e ∙ plus_none (delay_between d split n m));
        all = λ s f. let bad : None ≡ Some s = sym (ap (plus_some (delay_between d split n m)) e ∙ plus_none (delay_between d split n m)) ∙ f in absurd (cc);
      }
      by (Some w) e = record {
        delay = (λ k. plus_some (are.delays split n m (first_quiet m ms (rest.all w e)) k) (rest.delay k));
        all = λ s f.
            (let left = plus_left (delay_between d split n m) (walk_delay d split m ms) s f in
            (are.closed split n m left.0 (first_quiet m ms (rest.all w e)) left.1, rest.all w e));
      }

  -- a list of nodes that ends at such a node is a walk in both designs or in none
  same_walk : (split : Split) (n : Named) (ms : List Named) → quiet (last_of n ms) ≡ true → IsSameWalk split n ms
  same_walk split n [] q = record { delay = refl; all = λ s e. q }
  same_walk split n (m ∷ ms) q = longer split n m ms (same_walk split m ms q)

  -- the launch node, and the last node that the path shares with a clock's walk, are of the path
  same_launch : (n : Named) (ms : List Named) → AreAllQuiet n ms → (launch_node d2 n ms ≡ launch_node d n ms) × (quiet (launch_node d n ms) ≡ true)
  same_launch n [] h = (refl, h)
  same_launch n (m ∷ ms) h =
      let there = first_quiet m ms h.1 in
      let same : is_network_named d2 m ≡ is_network_named d m = are.network m there in
      elim (cases_Bool (is_network_named d m)) [
        | inl e ↦ rw (same, e) (same_launch m ms h.1)
        | inr e ↦ rw (same, e) (same_launch n ms (skipped n m ms h))
      ]
    where
      skipped : (n m : Named) (ms : List Named) → AreAllQuiet n (m ∷ ms) → AreAllQuiet n ms
      skipped n m [] h = h.0
      skipped n m (l ∷ ls) h = (h.0, h.1.1)

  same_last : (edge : ℕ × Tran) (last : Option Named) → option_map_or quiet last true ≡ true
      → option_map_or (spread_at d2 edge) last (pos 0) ≡ option_map_or (spread_at d edge) last (pos 0)
  same_last edge None l = refl
  same_last edge (Some n) l = are.spreads edge n l

  same_shared : (edge : ℕ × Tran) (last : Option Named) (n : Named) (ms others : List Named) → AreAllQuiet n ms → option_map_or quiet last true ≡ true
      → option_map_or (spread_at d2 edge) (last_common last (n ∷ ms) others) (pos 0) ≡ option_map_or (spread_at d edge) (last_common last (n ∷ ms) others) (pos 0)
  same_shared edge last n ms [] h l = same_last edge last l
  same_shared edge last n [] (o ∷ others) h l = elim (cases_Bool (same_named n o)) [
    | inl e ↦ rw e (same_last edge (Some n) h)
    | inr e ↦ rw e (same_last edge last l)
  ]
  same_shared edge last n (m ∷ ms) (o ∷ others) h l = elim (cases_Bool (same_named n o)) [
    | inl e ↦ rw e (same_shared edge (Some n) m ms others h.1 h.0)
    | inr e ↦ rw e (same_last edge last l)
  ]

  -- the slacks of a path by tests that ask the same
  module _ (kind : Kind) (n : Named) (ms : List Named) (all : AreAllQuiet n ms) (edge : ℕ × Tran) (length : ℤ) where
    end_quiet : (m : Named) (ls : List Named) → AreAllQuiet m ls → quiet (last_of m ls) ≡ true
    end_quiet m [] h = h
    end_quiet m (l ∷ ls) h = end_quiet l ls h.1

    launched : launch_of d2 n ms edge ≡ launch_of d n ms edge
    launched =
        let l = same_launch n ms all in
        (λ k. record { pin = (l.0 k).0; cell = (ap (λ (m : Named). owner_named d2 m.0) l.0 ∙ are.owners (launch_node d n ms) l.1) k; clock = edge.0 })

    module _ (a b : Test) (same : IsSameTest a b) where
      captured : capture_of d2 (last_of n ms) b ≡ capture_of d (last_of n ms) a
      captured = λ k. record { pin = (last_of n ms).0; cell = are.owners (last_of n ms) (end_quiet n ms all) k; clock = (same.capture k).0 }

      asked : tests_path d2 kind n ms edge b ≡ tests_path d kind n ms edge a
      asked = λ k. is_tested (are.constraints k) kind (launched k) (captured k)

      credited : credit d2 (n ∷ ms) edge b ≡ credit d (n ∷ ms) edge a
      credited =
          ap (λ walk. option_map_or (spread_at d2 edge) (last_common None (n ∷ ms) walk) (pos 0)) same.walk
          ∙ same_shared edge None n ms (map named a.walk) all refl

      -- separation, cycles and uncertainty are of the constraints
      separated : moved d2 kind (launch_of d2 n ms edge) (capture_of d2 (last_of n ms) b) edge b.capture ≡ moved d kind (launch_of d n ms edge) (capture_of d (last_of n ms) a) edge a.capture
      separated = λ k. moved (record d { constraints = are.constraints k }) kind (launched k) (captured k) edge (same.capture k)

      uncertain : uncertainty_on d2 kind b.capture.0 ≡ uncertainty_on d kind a.capture.0
      uncertain = λ k. uncertainty_on (record d { constraints = are.constraints k }) kind (same.capture k).0

      by_kind : (k : Kind) (sep unc share : ℤ) → slack_by k b sep unc share length ≡ slack_by k a sep unc share length
      by_kind Setup sep unc share = λ k. same.early k +ℤ sep -ℤ same.need k -ℤ unc +ℤ share -ℤ length
      by_kind Hold sep unc share = λ k. length -ℤ same.late k -ℤ sep -ℤ same.need k -ℤ unc +ℤ share

      valued : slack_of d2 kind n ms edge length b ≡ slack_of d kind n ms edge length a
      valued = (λ k. slack_by kind b (separated k) (uncertain k) (credited k) length)
          ∙ by_kind kind (moved d kind (launch_of d n ms edge) (capture_of d (last_of n ms) a) edge a.capture) (uncertainty_on d kind a.capture.0) (credit d (n ∷ ms) edge a)

    slacks_same : (xs ys : List Test) → AreSameTests xs ys
        → AreSameSlacks (map (λ test. (test, slack_of d kind n ms edge length test)) (filter (tests_path d kind n ms edge) xs))
        (map (λ test. (test, slack_of d2 kind n ms edge length test)) (filter (tests_path d2 kind n ms edge) ys))
    slacks_same [] [] h = tt
    slacks_same [] (y ∷ ys) h = absurd h
    slacks_same (x ∷ xs) [] h = absurd h
    slacks_same (x ∷ xs) (y ∷ ys) h = elim (cases_Bool (tests_path d kind n ms edge x)) [
      | inl e ↦ rw (asked x y h.0, e) (valued x y h.0, slacks_same xs ys h.1)
      | inr e ↦ rw (asked x y h.0, e) (slacks_same xs ys h.1)
    ]

  module _ (kind : Kind) (pin : List ℕ) (end : IsQuietEnd d d2 quiet kind pin) where
    same_pin : (n : Named) (ms : List Named) → ends_at pin (n ∷ ms) ≡ true → last_of n ms ≡ (pin, (last_of n ms).1)
    same_pin n ms h = λ k. (same_is (last_of n ms).0 pin h k, (last_of n ms).1)

    walked : (n : Named) (ms : List Named) → ends_at pin (n ∷ ms) ≡ true → IsSameWalk (data_split kind) n ms
    walked n ms h = same_walk (data_split kind) n ms (ap quiet (same_pin n ms h) ∙ end.end (last_of n ms).1)

    no_path : (e : Design) (n : Named) (ms : List Named) → walk_delay e (data_split kind) n ms ≡ None → path_slacks e kind (n ∷ ms) ≡ []
    no_path e n ms w = by (start_of e (data_split kind) n)
      where
        by : (o : Option ((ℕ × Tran) × ℤ)) → option_map_or (λ (edge, time). option_map_or (λ sum. slacks_from e kind n ms edge (time +ℤ sum)) (walk_delay e (data_split kind) n ms) []) o [] ≡ []
        by None = refl
        by (Some (edge, time)) = ap (λ (o : Option ℤ). option_map_or (λ sum. slacks_from e kind n ms edge (time +ℤ sum)) o []) w

    abbrev slacks_with : Design → Named → List Named → Option ((ℕ × Tran) × ℤ) → ℤ → List (Test × ℤ)
    slacks_with e n ms o sum = option_map_or (λ (edge, time). slacks_from e kind n ms edge (time +ℤ sum)) o []

    one_path : (e : Design) (n : Named) (ms : List Named) (sum : ℤ) → walk_delay e (data_split kind) n ms ≡ Some sum
        → path_slacks e kind (n ∷ ms) ≡ slacks_with e n ms (start_of e (data_split kind) n) sum
    one_path e n ms sum w = by (start_of e (data_split kind) n)
      where
        by : (o : Option ((ℕ × Tran) × ℤ)) → option_map_or (λ (edge, time). option_map_or (λ s. slacks_from e kind n ms edge (time +ℤ s)) (walk_delay e (data_split kind) n ms) []) o [] ≡ slacks_with e n ms o sum
        by None = refl
        by (Some (edge, time)) = ap (λ (o : Option ℤ). option_map_or (λ s. slacks_from e kind n ms edge (time +ℤ s)) o []) w

    tests_there : (m : Named) → m ≡ (pin, m.1) → AreSameTests (tests_named d kind m) (tests_named d2 kind m)
    tests_there m e = subst (λ (x : Named). AreSameTests (tests_named d kind x) (tests_named d2 kind x)) (sym e) (end.tests m.1)

    with_same : (n : Named) (ms : List Named) → ends_at pin (n ∷ ms) ≡ true → AreAllQuiet n ms → (o : Option ((ℕ × Tran) × ℤ)) (sum : ℤ)
        → AreSameSlacks (slacks_with d n ms o sum) (slacks_with d2 n ms o sum)
    with_same n ms h all None sum = tt
    with_same n ms h all (Some (edge, time)) sum =
        slacks_same kind n ms all edge (time +ℤ sum) (tests_named d kind (last_of n ms)) (tests_named d2 kind (last_of n ms)) (tests_there (last_of n ms) (same_pin n ms h))

    path_same : (n : Named) (ms : List Named) → ends_at pin (n ∷ ms) ≡ true → AreSameSlacks (path_slacks d kind (n ∷ ms)) (path_slacks d2 kind (n ∷ ms))
    path_same n ms h = by (walk_delay d (data_split kind) n ms) refl
      where
        by : (o : Option ℤ) → walk_delay d (data_split kind) n ms ≡ o → AreSameSlacks (path_slacks d kind (n ∷ ms)) (path_slacks d2 kind (n ∷ ms))
        by None e =
            subst (λ (xs : List (Test × ℤ)). AreSameSlacks xs (path_slacks d2 kind (n ∷ ms))) (sym (no_path d n ms e))
            (subst (AreSameSlacks []) (sym (no_path d2 n ms ((walked n ms h).delay ∙ e))) tt)
        by (Some sum) e =
            let all = (walked n ms h).all sum e in
            subst (λ (xs : List (Test × ℤ)). AreSameSlacks xs (path_slacks d2 kind (n ∷ ms))) (sym (one_path d n ms sum e))
            (subst (AreSameSlacks (slacks_with d n ms (start_of d (data_split kind) n) sum))
            (sym (one_path d2 n ms sum ((walked n ms h).delay ∙ e) ∙ ap (λ o. slacks_with d2 n ms o sum) (are.starts (data_split kind) n (first_quiet n ms all))))
            (with_same n ms h all (start_of d (data_split kind) n) sum))

    -- the slack of such an endpoint
    pub slack_kept : (s : Option ℤ) → IsSlack d kind pin s → IsSlack d2 kind pin s
    slack_kept None is = none
      where
        none : (path : List Named) → ends_at pin path ≡ true → path_slacks d2 kind path ≡ []
        none [] e = refl
        none (n ∷ ms) e =
            slacks_none (path_slacks d2 kind (n ∷ ms)) (subst (λ (xs : List (Test × ℤ)). AreSameSlacks xs (path_slacks d2 kind (n ∷ ms))) (is (n ∷ ms) e) (path_same n ms e))
    slack_kept (Some s) ((path, test, e, c), below) = (there path test e c, least below)
      where
        there : (path : List Named) (test : Test) → ends_at pin path ≡ true → Contains (path_slacks d kind path) (test, s)
            → (p : List Named) × (t : Test) × (ends_at pin p ≡ true) × Contains (path_slacks d2 kind p) (t, s)
        there [] test e c = absurd (none_in (test, s) c)
        there (n ∷ ms) test e c = let r = found_after (path_slacks d kind (n ∷ ms)) (path_slacks d2 kind (n ∷ ms)) (path_same n ms e) test s c in (n ∷ ms, r.0, e, r.1)

        least : ((path : List Named) (test : Test) (t : ℤ) → ends_at pin path ≡ true → Contains (path_slacks d kind path) (test, t) → s ≤ℤ t)
            → (path : List Named) (test : Test) (t : ℤ) → ends_at pin path ≡ true → Contains (path_slacks d2 kind path) (test, t) → s ≤ℤ t
        least below [] test t e c = absurd (none_in (test, t) c)
        least below (n ∷ ms) test t e c =
            let r = found_before (path_slacks d kind (n ∷ ms)) (path_slacks d2 kind (n ∷ ms)) (path_same n ms e) test t c in
            below (n ∷ ms) r.0 t e r.1
