-- An endpoint keeps its slack where the paths through a change leave more at its nodes.

use Rattle.std.proofs.Common.{◌≡◌, ℕ, ℤ, pos, ◌+ℤ◌, ◌-ℤ◌, ◌≤ℤ◌, List, [], ◌∷◌, map, filter, Option, None, Some, refl, sym, ap, subst, ◌∙◌, inl, inr, arith}
use Rattle.std.specs.Prelude.{◌<ℤ◌}
use Rattle.std.specs.List.{Contains}
use Rattle.std.specs.Option.{option_map_or}
use Rattle.std.proofs.lemmas.Int.{ints}
use Rattle.timing_defs.specs.declared.kinds.Tran.{Tran}
use Rattle.timing_defs.specs.declared.kinds.Kind.{Kind}
use Rattle.timing_defs.specs.declared.kinds.Kind.TheVariants.{Setup, Hold}
use Rattle.timing_defs.specs.declared.rows.Launch.{Launch}
use Rattle.timing_defs.specs.declared.rows.Capture.{Capture}
use Rattle.timing_defs.specs.declared.design.Design.{Design}
use Rattle.timing_rules.specs.Tests.{Test, uncertainty_on}
use Rattle.timing_defs.specs.Kinds.{data_split}
use Rattle.timing_rules.specs.Paths.{Named, named, walk_delay, last_of, start_of, launch_of, capture_of, last_common, spread_at, credit, moved, slack_by, slack_of, tests_path, slacks_from, path_slacks, IsSlack}
use Rattle.timing_defs.proofs.SameNames.{same_is}
use Rattle.timing_defs.proofs.Members.{none_in, in_cases, first_in, later_in, in_map_back, kept_in}
use Rattle.bounded_changes.specs.Agreed.{Steps, AreAgreed, tests_of, IsKeptTest, AreKeptTests, IsKeptEnd, AreGreater}
use Rattle.bounded_changes.specs.Carried.{IsBeyond, arrival_named, AreArrivals, AreCarried, IsSharing, IsLowest, room, Arrives, IsShieldedFrom, IsShielded}
use Rattle.bounded_changes.proofs.SamePaths.{shared_in, shared_first, slack_left}
use Rattle.bounded_changes.proofs.CarriedPaths.{beyond_value, arrives_on, path_carried}

-- a path with a slack by one of its tests
record HasSlack (d : Design) (kind : Kind) (n : Named) (ms : List Named) (test : Test) (t : ℤ) : Type 0 where
  edge : ℕ × Tran
  time : ℤ
  sum : ℤ
  starts : start_of d (data_split kind) n ≡ Some (edge, time)
  walks : walk_delay d (data_split kind) n ms ≡ Some sum
  asked : Contains (tests_of d kind (last_of n ms)) test
  is : slack_of d kind n ms edge (time +ℤ sum) test ≡ t

module _ (d : Design) (kind : Kind) (n : Named) (ms : List Named) (test : Test) (t : ℤ) where
  one_slack : (edge : ℕ × Tran) (time sum : ℤ) → start_of d (data_split kind) n ≡ Some (edge, time) → walk_delay d (data_split kind) n ms ≡ Some sum
      → Contains (slacks_from d kind n ms edge (time +ℤ sum)) (test, t) → HasSlack d kind n ms test t
  one_slack edge time sum s w c =
      let m = in_map_back (λ (x : Test). (x, slack_of d kind n ms edge (time +ℤ sum) x)) (filter (tests_path d kind n ms edge) (tests_of d kind (last_of n ms))) (test, t) c in
      let its : m.item ≡ test = ap (λ (p : Test × ℤ). p.0) m.same in
      record {
        edge = edge;
        time = time;
        sum = sum;
        starts = s;
        walks = w;
        asked = subst (λ (x : Test). Contains (tests_of d kind (last_of n ms)) x) its (kept_in (tests_path d kind n ms edge) (tests_of d kind (last_of n ms)) m.item m.within);
        is = ap (slack_of d kind n ms edge (time +ℤ sum)) (sym its) ∙ ap (λ (p : Test × ℤ). p.1) m.same;
      }

  has_slack : Contains (path_slacks d kind (n ∷ ms)) (test, t) → HasSlack d kind n ms test t
  has_slack c = by (start_of d (data_split kind) n) refl (walk_delay d (data_split kind) n ms) refl c
    where
      by : (o : Option ((ℕ × Tran) × ℤ)) → start_of d (data_split kind) n ≡ o → (p : Option ℤ) → walk_delay d (data_split kind) n ms ≡ p
          → Contains (option_map_or (λ (edge, time). option_map_or (λ sum. slacks_from d kind n ms edge (time +ℤ sum)) p []) o []) (test, t) → HasSlack d kind n ms test t
      by None s p w h = absurd (none_in (test, t) h)
      by (Some (edge, time)) s None w h = absurd (none_in (test, t) h)
      by (Some (edge, time)) s (Some sum) w h = one_slack edge time sum s w h

-- a slack is at least what the lowest leaves of the length
by_credit : (kind : Kind) (test : Test) (low sep unc least credit length : ℤ) → low ≤ℤ slack_by kind test sep unc least (pos 0) → least ≤ℤ credit
    → room kind low length ≤ℤ slack_by kind test sep unc credit length
by_credit Setup test low sep unc least credit length h k = by test.early test.need h
  where
    by : (early need : ℤ) → low ≤ℤ (early +ℤ sep -ℤ need -ℤ unc +ℤ least -ℤ pos 0) → (low -ℤ length) ≤ℤ (early +ℤ sep -ℤ need -ℤ unc +ℤ credit -ℤ length)
    by early need g = omega (arith, ints, g, k)
by_credit Hold test low sep unc least credit length h k = by test.late test.need h
  where
    by : (late need : ℤ) → low ≤ℤ (pos 0 -ℤ late -ℤ sep -ℤ need -ℤ unc +ℤ least) → (low +ℤ length) ≤ℤ (length -ℤ late -ℤ sep -ℤ need -ℤ unc +ℤ credit)
    by late need g = omega (arith, ints, g, k)

lowest_credit : (d : Design) (kind : Kind) (edge : ℕ × Tran) (test : Test) (low : ℤ) (least : IsLowest d kind edge test low) (n : Named) (ms : List Named) (time : ℤ)
    → start_of d (data_split kind) n ≡ Some (edge, time) → least.credit ≤ℤ credit d (n ∷ ms) edge test
lowest_credit d kind edge test low least n ms time starts = by (last_common None (n ∷ ms) (map named test.walk)) refl
  where
    by : (o : Option Named) → last_common None (n ∷ ms) (map named test.walk) ≡ o → least.credit ≤ℤ option_map_or (spread_at d edge) o (pos 0)
    by None e = least.least
    by (Some m) e = elim (shared_in None (n ∷ ms) (map named test.walk) m e) [
      | inl never ↦ absurd (cc)
      | inr c ↦
          let f = shared_first n ms (map named test.walk) m e in
          least.spreads (record { first = n; rest = f.0; begins = f.1; time = time; starts = starts }) m c
    ]

slack_low : (d : Design) (kind : Kind) (edge : ℕ × Tran) (test : Test) (low : ℤ) → IsLowest d kind edge test low → (n : Named) (ms : List Named) (time length : ℤ)
    → start_of d (data_split kind) n ≡ Some (edge, time) → room kind low length ≤ℤ slack_of d kind n ms edge length test
slack_low d kind edge test low least n ms time length starts =
    by_credit kind test low (moved d kind (launch_of d n ms edge) (capture_of d (last_of n ms) test) edge test.capture) (uncertainty_on d kind test.capture.0) least.credit
    (credit d (n ∷ ms) edge test) length (least.below (launch_of d n ms edge) (capture_of d (last_of n ms) test)) (lowest_credit d kind edge test low least n ms time starts)

-- the test of the other design that asks the same
record HasKept (d d2 : Design) (a : Test) (ys : List Test) : Type 0 where
  test : Test
  within : Contains ys test
  kept : IsKeptTest d d2 a test

kept_of : (d d2 : Design) (xs ys : List Test) → AreKeptTests d d2 xs ys → (a : Test) → Contains xs a → HasKept d d2 a ys
kept_of d d2 [] ys h a c = absurd (none_in a c)
kept_of d d2 (x ∷ xs) [] h a c = absurd h
kept_of d d2 (x ∷ xs) (y ∷ ys) h a c = elim (in_cases x xs a c) [
  | inl e ↦ record { test = y; within = first_in y ys; kept = subst (λ (z : Test). IsKeptTest d d2 z y) e h.0 }
  | inr later ↦ let r = kept_of d d2 xs ys h.1 a later in record { test = r.test; within = later_in y ys r.test r.within; kept = r.kept }
]

module _ (d d2 : Design) (kind : Kind) (agreed : Steps) (are : AreAgreed d d2 (data_split kind) agreed) where
  -- a lowest slack is one in both designs
  lowest_before : (edge : ℕ × Tran) (a b : Test) (low : ℤ) → IsKeptTest d d2 a b → IsLowest d2 kind edge b low → IsLowest d kind edge a low
  lowest_before edge a b low kept least = record {
    credit = least.credit;
    least = least.least;
    spreads = λ share n c.
        subst (λ (z : ℤ). least.credit ≤ℤ z) (kept.spreads edge n c)
        (least.spreads (shared share) n (subst (λ (ns : List Named). Contains ns n) (sym kept.walk) c));
    below = λ launch capture. subst (λ (z : ℤ). low ≤ℤ z) (same launch capture) (least.below launch capture);
  }
    where
      shared : IsSharing d (data_split kind) edge (map named a.walk) → IsSharing d2 (data_split kind) edge (map named b.walk)
      shared share = record {
        first = share.first;
        rest = share.rest;
        begins = kept.walk ∙ share.begins;
        time = share.time;
        starts = kept.starts (data_split kind) share.first (subst (λ (ns : List Named). Contains ns share.first) (sym share.begins) (first_in share.first share.rest)) ∙ share.starts;
      }

      by_kind : (k : Kind) (sep unc : ℤ) → slack_by k b sep unc least.credit (pos 0) ≡ slack_by k a sep unc least.credit (pos 0)
      by_kind Setup sep unc = λ k. kept.early k +ℤ sep -ℤ kept.need k -ℤ unc +ℤ least.credit -ℤ pos 0
      by_kind Hold sep unc = λ k. pos 0 -ℤ kept.late k -ℤ sep -ℤ kept.need k -ℤ unc +ℤ least.credit

      same : (launch : Launch) (capture : Capture)
          → slack_by kind b (moved d2 kind launch capture edge b.capture) (uncertainty_on d2 kind b.capture.0) least.credit (pos 0)
          ≡ slack_by kind a (moved d kind launch capture edge a.capture) (uncertainty_on d kind a.capture.0) least.credit (pos 0)
      same launch capture =
          (λ k. slack_by kind b (moved (record d { constraints = are.constraints k }) kind launch capture edge (kept.capture k))
          (uncertainty_on (record d { constraints = are.constraints k }) kind (kept.capture k).0) least.credit (pos 0))
          ∙ by_kind kind (moved d kind launch capture edge a.capture) (uncertainty_on d kind a.capture.0)

  -- what is left of a carried time is at most what is left of a path's length
  room_less : (k : Kind) (low length c : ℤ) → IsBeyond (data_split k) (Some c) length → room k low c ≤ℤ room k low length
  room_less Setup low length c h = omega (arith, ints, h)
  room_less Hold low length c h = omega (arith, ints, h)

  through : (s a b t : ℤ) → s <ℤ a → a ≤ℤ b → b ≤ℤ t → s <ℤ t
  through s a b t p q r = omega (arith, ints, p, q, r)

  module _ (carried : Named → Option ℤ) (pin : List ℕ) (s : ℤ) (shielded : (tran : Tran) → IsShielded d d2 kind carried (pin, tran) s) where
    -- the paths of one of the designs; `lowest` tells its lowest slacks
    module _ (e : Design) (arrive : AreArrivals e (data_split kind)) (carry : AreCarried e (data_split kind) agreed carried)
        (lowest : (tran : Tran) (c : ℤ) (at : carried (pin, tran) ≡ Some c) (edge : ℕ × Tran) → Arrives e (data_split kind) edge (pin, tran) → (test : Test)
        → Contains (tests_of e kind (pin, tran)) test → IsLowest e kind edge test (shielded tran c at).low) where
      all_greater : AreGreater e kind pin agreed s
      all_greater [] test t ends off c = absurd (none_in (test, t) c)
      all_greater (n ∷ ms) test t ends off c =
          let h = has_slack e kind n ms test t c in
          let last : last_of n ms ≡ (pin, (last_of n ms).1) = (λ k. (same_is (last_of n ms).0 pin ends k, (last_of n ms).1)) in
          let tran = (last_of n ms).1 in
          let gone = beyond_value (data_split kind) (carried (last_of n ms)) (h.time +ℤ h.sum)
          (path_carried e (data_split kind) agreed carried arrive carry h.edge n ms h.time h.sum h.starts h.walks off) in
          let at = beyond_value (data_split kind) (arrival_named e (data_split kind) h.edge (last_of n ms)) (h.time +ℤ h.sum)
          (arrives_on e (data_split kind) agreed carried arrive carry h.edge n ms h.time h.sum (arrive.starts n h.edge h.time h.starts) h.walks) in
          let comes : carried (pin, tran) ≡ Some gone.value = ap carried (sym last) ∙ gone.is in
          let least = lowest tran gone.value comes h.edge (at.value, ap (arrival_named e (data_split kind) h.edge) (sym last) ∙ at.is) test
          (subst (λ (m : Named). Contains (tests_of e kind m) test) last h.asked) in
          through s (room kind (shielded tran gone.value comes).low gone.value) (room kind (shielded tran gone.value comes).low (h.time +ℤ h.sum)) t
          (shielded tran gone.value comes).more
          (room_less kind (shielded tran gone.value comes).low (h.time +ℤ h.sum) gone.value gone.beyond)
          (subst (λ (z : ℤ). room kind (shielded tran gone.value comes).low (h.time +ℤ h.sum) ≤ℤ z) h.is
          (slack_low e kind h.edge test (shielded tran gone.value comes).low least n ms h.time (h.time +ℤ h.sum) h.starts))

    -- the slack of a shielded endpoint stays
    pub slack_stays : IsKeptEnd d d2 kind pin → AreArrivals d (data_split kind) → AreArrivals d2 (data_split kind)
        → AreCarried d (data_split kind) agreed carried → AreCarried d2 (data_split kind) agreed carried
        → IsSlack d kind pin (Some s) → IsSlack d2 kind pin (Some s)
    slack_stays kept arrive arrive2 carry carry2 =
        slack_left d d2 kind agreed are pin kept s
        (all_greater d arrive carry
        (λ tran c at edge there test m.
        let k = kept_of d d2 (tests_of d kind (pin, tran)) (tests_of d2 kind (pin, tran)) (kept tran) test m in
        lowest_before edge test k.test (shielded tran c at).low k.kept ((shielded tran c at).lowest edge (inl there) k.test k.within)))
        (all_greater d2 arrive2 carry2 (λ tran c at edge there. (shielded tran c at).lowest edge (inr there)))
