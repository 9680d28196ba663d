-- A path of which two designs agree on each step has the same slacks in both. Where every other path has a greater slack than an
-- endpoint, the endpoint keeps its slack.

use Rattle.std.proofs.Common.{◌≡◌, ◌⊎◌, ℕ, ℤ, pos, ◌+ℤ◌, ◌-ℤ◌, ◌≤ℤ◌, Bool, true, List, [], ◌∷◌, map, filter, Option, None, Some, refl, sym, ap, subst, ◌∙◌, inl, inr, arith}
use Rattle.std.specs.Prelude.{◌<ℤ◌, if◌then◌else◌}
use Rattle.std.specs.List.{Contains}
use Rattle.std.specs.Option.{option_map_or}
use Rattle.std.specs.Str.{bytes_eq}
use Rattle.std.proofs.lemmas.Bool.{cases_Bool, and_parts}
use Rattle.std.proofs.lemmas.Int.{ints}
use Rattle.timing_defs.specs.declared.kinds.Tran.{Tran}
use Rattle.timing_defs.specs.declared.kinds.Tran.TheVariants.{Rise, Fall}
use Rattle.timing_defs.specs.declared.kinds.Kind.{Kind}
use Rattle.timing_defs.specs.declared.kinds.Kind.TheVariants.{Setup, Hold}
use Rattle.timing_defs.specs.declared.design.Design.{Design}
use Rattle.timing_defs.specs.Netlist.{same_tran}
use Rattle.timing_defs.specs.RowTimes.{plus_some}
use Rattle.timing_rules.specs.Rules.{is_tested}
use Rattle.timing_rules.specs.Tests.{Test, uncertainty_on}
use Rattle.timing_defs.specs.Kinds.{data_split}
use Rattle.timing_rules.specs.Paths.{Named, named, same_named, walk_delay, last_of, start_of, is_network_named, launch_node, launch_of, capture_of, owner_named, last_common, spread_at, credit, moved, slack_by, slack_of, tests_path, slacks_from, path_slacks, ends_at, IsSlack}
use Rattle.timing_defs.proofs.SameNames.{same_is}
use Rattle.timing_defs.proofs.Members.{none_in, in_cases, first_in, later_in, some_is}
use Rattle.bounded_changes.specs.Agreed.{Steps, steps_agreed, AreAgreed, tests_of, IsKeptTest, AreKeptTests, IsKeptEnd, AreGreater}

-- lists of tests and slacks, side by side
abbrev IsSameSlack : Test × ℤ → Test × ℤ → Type 0
IsSameSlack a b = b.1 ≡ a.1

abbrev AreSameSlacks : List (Test × ℤ) → List (Test × ℤ) → Type 0
AreSameSlacks [] [] = Unit {0}
AreSameSlacks [] (b ∷ bs) = ⊥
AreSameSlacks (a ∷ more) [] = ⊥
AreSameSlacks (a ∷ more) (b ∷ bs) = IsSameSlack a b × AreSameSlacks more bs

-- a slack of one list is one of the other
found_after : (xs ys : List (Test × ℤ)) → AreSameSlacks xs ys → (test : Test) (s : ℤ) → Contains xs (test, s) → (other : Test) × Contains ys (other, s)
found_after [] ys h test s c = absurd (none_in (test, s) c)
found_after (x ∷ xs) [] h test s c = absurd h
found_after (x ∷ xs) (y ∷ ys) h test s c = elim (in_cases x xs (test, s) c) [
  | inl e ↦
      let same : y.1 ≡ s = h.0 ∙ ap (λ (p : Test × ℤ). p.1) e in
      (y.0, subst (λ (t : ℤ). Contains (y ∷ ys) (y.0, t)) same (first_in y ys))
  | inr d ↦ let r = found_after xs ys h.1 test s d in (r.0, later_in y ys (r.0, s) r.1)
]

found_before : (xs ys : List (Test × ℤ)) → AreSameSlacks xs ys → (test : Test) (s : ℤ) → Contains ys (test, s) → (other : Test) × Contains xs (other, s)
found_before [] [] h test s c = absurd (none_in (test, s) c)
found_before [] (y ∷ ys) h test s c = absurd h
found_before (x ∷ xs) [] h test s c = absurd h
found_before (x ∷ xs) (y ∷ ys) h test s c = elim (in_cases y ys (test, s) c) [
  | inl e ↦
      let same : x.1 ≡ s = sym h.0 ∙ ap (λ (p : Test × ℤ). p.1) e in
      (x.0, subst (λ (t : ℤ). Contains (x ∷ xs) (x.0, t)) same (first_in x xs))
  | inr d ↦ let r = found_before xs ys h.1 test s d in (r.0, later_in x xs (r.0, s) r.1)
]

tran_is : (a b : Tran) → same_tran a b ≡ true → a ≡ b
tran_is Rise Rise e = refl
tran_is Rise Fall e = absurd (cc)
tran_is Fall Rise e = absurd (cc)
tran_is Fall Fall e = refl

named_is : (a b : Named) → same_named a b ≡ true → a ≡ b
named_is a b e =
    let p = and_parts (bytes_eq a.0 b.0) (same_tran a.1 b.1) e in
    λ k. (same_is a.0 b.0 p.0 k, tran_is a.1 b.1 p.1 k)

-- the last node that a path shares with a walk is the one before, or one of the walk
pub shared_in : (last : Option Named) (path others : List Named) (n : Named) → last_common last path others ≡ Some n → (last ≡ Some n) ⊎ Contains others n
shared_in last [] others n e = inl e
shared_in last (m ∷ ms) [] n e = inl e
shared_in last (m ∷ ms) (o ∷ os) n e = elim (cases_Bool (same_named m o)) [
  | inl f ↦ elim (shared_in (Some m) ms os n (sym (ap (λ (b : Bool). if b then last_common (Some m) ms os else last) f) ∙ e)) [
    | inl here ↦ inr (subst (λ (x : Named). Contains (o ∷ os) x) (sym (named_is m o f) ∙ some_is here) (first_in o os))
    | inr later ↦ inr (later_in o os n later)
  ]
  | inr f ↦ inl (sym (ap (λ (b : Bool). if b then last_common (Some m) ms os else last) f) ∙ e)
]

-- and the walk begins with the first node of the path
pub shared_first : (n : Named) (path others : List Named) (m : Named) → last_common None (n ∷ path) others ≡ Some m → (rest : List Named) × (others ≡ n ∷ rest)
shared_first n path [] m e = absurd (cc)
shared_first n path (o ∷ os) m e = elim (cases_Bool (same_named n o)) [
  | inl f ↦ (os, ap (λ (x : Named). x ∷ os) (sym (named_is n o f)))
  | inr f ↦ let none : None ≡ Some m = sym (ap (λ (b : Bool). if b then last_common (Some n) path os else None) f) ∙ e in absurd (cc)
]

module _ (d d2 : Design) (kind : Kind) (agreed : Steps) (are : AreAgreed d d2 (data_split kind) agreed) where
  -- the delays of a path
  same_walk : (before : Option Named) (n : Named) (ms : List Named) → steps_agreed agreed before n ms ≡ true
      → walk_delay d2 (data_split kind) n ms ≡ walk_delay d (data_split kind) n ms
  same_walk before n [] h = refl
  same_walk before n (m ∷ ms) h =
      let p = and_parts (agreed before n) (steps_agreed agreed (Some n) m ms) h in
      (λ k. plus_some (are.delays n m (first m ms p.1) k) (same_walk (Some n) m ms p.1 k))
    where
      first : (m : Named) (ms : List Named) → steps_agreed agreed (Some n) m ms ≡ true → agreed (Some n) m ≡ true
      first m [] e = e
      first m (l ∷ ls) e = (and_parts (agreed (Some n) m) (steps_agreed agreed (Some m) l ls) e).0

  first_agreed : (before : Option Named) (n : Named) (ms : List Named) → steps_agreed agreed before n ms ≡ true → agreed before n ≡ true
  first_agreed before n [] h = h
  first_agreed before n (m ∷ ms) h = (and_parts (agreed before n) (steps_agreed agreed (Some n) m ms) h).0

  -- a node of a path is agreed on with a step
  abbrev IsOn : Named → Type 0
  IsOn n = (before : Option Named) × (agreed before n ≡ true)

  -- the launch node is of the path
  same_launch : (l : Named) (before : Option Named) (n : Named) (ms : List Named) → IsOn l → steps_agreed agreed before n ms ≡ true
      → (launch_node d2 l (n ∷ ms) ≡ launch_node d l (n ∷ ms)) × IsOn (launch_node d l (n ∷ ms))
  same_launch l before n [] on h = elim (cases_Bool (is_network_named d n)) [
    | inl e ↦ rw (are.network before n h, e) (refl, (before, h))
    | inr e ↦ rw (are.network before n h, e) (refl, on)
  ]
  same_launch l before n (m ∷ ms) on h =
      let p = and_parts (agreed before n) (steps_agreed agreed (Some n) m ms) h in
      elim (cases_Bool (is_network_named d n)) [
        | inl e ↦ rw (are.network before n p.0, e) (same_launch n (Some n) m ms (before, p.0) p.1)
        | inr e ↦ rw (are.network before n p.0, e) (same_launch l (Some n) m ms on p.1)
      ]

  launch_same : (n : Named) (ms : List Named) → steps_agreed agreed None n ms ≡ true → (launch_node d2 n ms ≡ launch_node d n ms) × IsOn (launch_node d n ms)
  launch_same n [] h = (refl, (None, h))
  launch_same n (m ∷ ms) h =
      let p = and_parts (agreed None n) (steps_agreed agreed (Some n) m ms) h in
      same_launch n (Some n) m ms (None, p.0) p.1

  last_on : (before : Option Named) (n : Named) (ms : List Named) → steps_agreed agreed before n ms ≡ true → IsOn (last_of n ms)
  last_on before n [] h = (before, h)
  last_on before n (m ∷ ms) h = last_on (Some n) m ms (and_parts (agreed before n) (steps_agreed agreed (Some n) m ms) h).1

  -- the slacks of a path by tests that ask the same
  module _ (n : Named) (ms : List Named) (all : steps_agreed agreed None n ms ≡ true) (edge : ℕ × Tran) (length : ℤ) where
    launched : launch_of d2 n ms edge ≡ launch_of d n ms edge
    launched =
        let l = launch_same n ms all in
        (λ k. record { pin = (l.0 k).0; cell = (ap (λ (m : Named). owner_named d2 m.0) l.0 ∙ are.owners l.1.0 (launch_node d n ms) l.1.1) k; clock = edge.0 })

    module _ (a b : Test) (same : IsKeptTest d d2 a b) where
      captured : capture_of d2 (last_of n ms) b ≡ capture_of d (last_of n ms) a
      captured =
          let l = last_on None n ms all in
          (λ k. record { pin = (last_of n ms).0; cell = are.owners l.0 (last_of n ms) l.1 k; clock = (same.capture k).0 })

      asked : tests_path d2 kind n ms edge b ≡ tests_path d kind n ms edge a
      asked = λ k. is_tested (are.constraints k) kind (launched k) (captured k)

      shared : option_map_or (spread_at d2 edge) (last_common None (n ∷ ms) (map named a.walk)) (pos 0) ≡ option_map_or (spread_at d edge) (last_common None (n ∷ ms) (map named a.walk)) (pos 0)
      shared = by (last_common None (n ∷ ms) (map named a.walk)) refl
        where
          by : (o : Option Named) → last_common None (n ∷ ms) (map named a.walk) ≡ o → option_map_or (spread_at d2 edge) o (pos 0) ≡ option_map_or (spread_at d edge) o (pos 0)
          by None e = refl
          by (Some m) e = elim (shared_in None (n ∷ ms) (map named a.walk) m e) [
            | inl never ↦ absurd (cc)
            | inr c ↦ same.spreads edge m c
          ]

      credited : credit d2 (n ∷ ms) edge b ≡ credit d (n ∷ ms) edge a
      credited = ap (λ walk. option_map_or (spread_at d2 edge) (last_common None (n ∷ ms) walk) (pos 0)) same.walk ∙ shared

      -- separation, cycles and uncertainty are of the constraints
      separated : moved d2 kind (launch_of d2 n ms edge) (capture_of d2 (last_of n ms) b) edge b.capture ≡ moved d kind (launch_of d n ms edge) (capture_of d (last_of n ms) a) edge a.capture
      separated = λ k. moved (record d { constraints = are.constraints k }) kind (launched k) (captured k) edge (same.capture k)

      uncertain : uncertainty_on d2 kind b.capture.0 ≡ uncertainty_on d kind a.capture.0
      uncertain = λ k. uncertainty_on (record d { constraints = are.constraints k }) kind (same.capture k).0

      by_kind : (k : Kind) (sep unc share : ℤ) → slack_by k b sep unc share length ≡ slack_by k a sep unc share length
      by_kind Setup sep unc share = λ k. same.early k +ℤ sep -ℤ same.need k -ℤ unc +ℤ share -ℤ length
      by_kind Hold sep unc share = λ k. length -ℤ same.late k -ℤ sep -ℤ same.need k -ℤ unc +ℤ share

      valued : slack_of d2 kind n ms edge length b ≡ slack_of d kind n ms edge length a
      valued = (λ k. slack_by kind b (separated k) (uncertain k) (credited k) length)
          ∙ by_kind kind (moved d kind (launch_of d n ms edge) (capture_of d (last_of n ms) a) edge a.capture) (uncertainty_on d kind a.capture.0) (credit d (n ∷ ms) edge a)

    slacks_same : (xs ys : List Test) → AreKeptTests d d2 xs ys
        → AreSameSlacks (map (λ test. (test, slack_of d kind n ms edge length test)) (filter (tests_path d kind n ms edge) xs))
        (map (λ test. (test, slack_of d2 kind n ms edge length test)) (filter (tests_path d2 kind n ms edge) ys))
    slacks_same [] [] h = tt
    slacks_same [] (y ∷ ys) h = absurd h
    slacks_same (x ∷ xs) [] h = absurd h
    slacks_same (x ∷ xs) (y ∷ ys) h = elim (cases_Bool (tests_path d kind n ms edge x)) [
      | inl e ↦ rw (asked x y h.0, e) (valued x y h.0, slacks_same xs ys h.1)
      | inr e ↦ rw (asked x y h.0, e) (slacks_same xs ys h.1)
    ]

  module _ (pin : List ℕ) (end : IsKeptEnd d d2 kind pin) where
    same_pin : (n : Named) (ms : List Named) → ends_at pin (n ∷ ms) ≡ true → last_of n ms ≡ (pin, (last_of n ms).1)
    same_pin n ms h = λ k. (same_is (last_of n ms).0 pin h k, (last_of n ms).1)

    abbrev slacks_with : Design → Named → List Named → Option ((ℕ × Tran) × ℤ) → Option ℤ → List (Test × ℤ)
    slacks_with e n ms start sum = option_map_or (λ (edge, time). option_map_or (λ s. slacks_from e kind n ms edge (time +ℤ s)) sum []) start []

    tests_there : (m : Named) → m ≡ (pin, m.1) → AreKeptTests d d2 (tests_of d kind m) (tests_of d2 kind m)
    tests_there m e = subst (λ (x : Named). AreKeptTests d d2 (tests_of d kind x) (tests_of d2 kind x)) (sym e) (end m.1)

    with_same : (n : Named) (ms : List Named) → ends_at pin (n ∷ ms) ≡ true → steps_agreed agreed None n ms ≡ true → (start : Option ((ℕ × Tran) × ℤ)) (sum : Option ℤ)
        → AreSameSlacks (slacks_with d n ms start sum) (slacks_with d2 n ms start sum)
    with_same n ms h all None sum = tt
    with_same n ms h all (Some (edge, time)) None = tt
    with_same n ms h all (Some (edge, time)) (Some sum) =
        slacks_same n ms all edge (time +ℤ sum) (tests_of d kind (last_of n ms)) (tests_of d2 kind (last_of n ms)) (tests_there (last_of n ms) (same_pin n ms h))

    path_same : (n : Named) (ms : List Named) → ends_at pin (n ∷ ms) ≡ true → steps_agreed agreed None n ms ≡ true
        → AreSameSlacks (path_slacks d kind (n ∷ ms)) (path_slacks d2 kind (n ∷ ms))
    path_same n ms h all =
        subst (λ (xs : List (Test × ℤ)). AreSameSlacks (path_slacks d kind (n ∷ ms)) xs)
        (sym (λ k. slacks_with d2 n ms (are.starts n (first_agreed None n ms all) k) (same_walk None n ms all k)))
        (with_same n ms h all (start_of d (data_split kind) n) (walk_delay d (data_split kind) n ms))

    no_less : (s : ℤ) → s <ℤ s → ⊥
    no_less s h = omega (arith, ints, h)

    at_most : (s t : ℤ) → s <ℤ t → s ≤ℤ t
    at_most s t h = omega (arith, ints, h)

    -- the slack of an endpoint to which no other path is as bad
    pub slack_left : (s : ℤ) → AreGreater d kind pin agreed s → AreGreater d2 kind pin agreed s → IsSlack d kind pin (Some s) → IsSlack d2 kind pin (Some s)
    slack_left s before after ((path, test, e, c), below) = (there path test e c, least)
      where
        there : (path : List Named) (test : Test) → ends_at pin path ≡ true → Contains (path_slacks d kind path) (test, s)
            → (p : List Named) × (t : Test) × (ends_at pin p ≡ true) × Contains (path_slacks d2 kind p) (t, s)
        there [] test e c = absurd (none_in (test, s) c)
        there (n ∷ ms) test e c = elim (cases_Bool (steps_agreed agreed None n ms)) [
          | inl all ↦ let r = found_after (path_slacks d kind (n ∷ ms)) (path_slacks d2 kind (n ∷ ms)) (path_same n ms e all) test s c in (n ∷ ms, r.0, e, r.1)
          | inr other ↦ absurd (no_less s (before (n ∷ ms) test s e other c))
        ]

        least : (path : List Named) (test : Test) (t : ℤ) → ends_at pin path ≡ true → Contains (path_slacks d2 kind path) (test, t) → s ≤ℤ t
        least [] test t e c = absurd (none_in (test, t) c)
        least (n ∷ ms) test t e c = elim (cases_Bool (steps_agreed agreed None n ms)) [
          | inl all ↦
              let r = found_before (path_slacks d kind (n ∷ ms)) (path_slacks d2 kind (n ∷ ms)) (path_same n ms e all) test t c in
              below (n ∷ ms) r.0 t e r.1
          | inr other ↦ at_most s t (after (n ∷ ms) test t e other c)
        ]
