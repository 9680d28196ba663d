-- The parts of a required time add up to the slack of their path, and no path of the design that is left out comes before one
-- that is given.

use Rattle.std.proofs.Common.{◌≡◌, ℕ, zero, suc, ℤ, ◌+ℤ◌, ◌-ℤ◌, Bool, false, List, [], ◌∷◌, map, filter, Option, None, Some, refl, sym, ap, subst, ◌∙◌, inl, inr, arith}
use Rattle.std.specs.Prelude.{◌≢◌, neg_ℤ, option_map, option_and_then}
use Rattle.std.specs.List.{Contains}
use Rattle.std.specs.Option.{option_map_or}
use Rattle.std.proofs.lemmas.Int.{ints}
use Rattle.timing_defs.specs.declared.kinds.Tran.{Tran}
use Rattle.timing_defs.specs.declared.kinds.Kind.{Kind}
use Rattle.timing_defs.specs.declared.kinds.Kind.TheVariants.{Setup, Hold}
use Rattle.timing_defs.specs.declared.rows.Path.{Path}
use Rattle.timing_defs.specs.declared.closing.RequiredParts.{RequiredParts}
use Rattle.timing_defs.specs.declared.closing.TimedPath.{TimedPath}
use Rattle.timing_defs.specs.declared.design.Design.{Design}
use Rattle.timing_defs.specs.Firsts.{AreFirst}
use Rattle.timing_defs.specs.Kinds.{data_split}
use Rattle.timing_defs.specs.RowTimes.{plus_some}
use Rattle.timing_defs.proofs.Members.{none_in, in_cases, first_in, later_in, in_map_back}
use Rattle.timing_rules.specs.Paths.{Named, node_named, walk_delay, start_of, last_of, launch_of, capture_of, credit, moved, slack_by, slack_of, tests_path, slacks_from, path_slacks, path_edge, path_named}
use Rattle.timing_rules.specs.Ranking.{Ranked, ranked, comes_before}
use Rattle.timing_rules.specs.Stages.{parts_by, parts_of, ArePartsOf, IsTimed}
use Rattle.timing_rules.specs.Summaries.{IsEligible, AreDesignPaths}
use Rattle.timing_rules.specs.Tests.{Test, tests_at, uncertainty_on}

-- required less arrival for setup, arrival less required for hold, with the required time the sum of its five parts
abbrev pub left_over : Kind → ℤ → ℤ → ℤ
left_over Setup required arrival = required -ℤ arrival
left_over Hold required arrival = arrival -ℤ required

pub record AddUp (kind : Kind) (parts : RequiredParts) (slack : ℤ) : Type 0 where
  pub sum : parts.required.0 ≡ (parts.separation.0 +ℤ parts.clock.0 +ℤ parts.test.0 +ℤ parts.uncertainty.0 +ℤ parts.credit.0)
  pub left : parts.slack.0 ≡ left_over kind parts.required.0 parts.arrival.0
  pub same : parts.slack.0 ≡ slack

parts_add_up : (kind : Kind) (test : Test) (sep unc credit length : ℤ)
    → AddUp kind (parts_by kind test sep unc credit length) (slack_by kind test sep unc credit length)
parts_add_up Setup test sep unc credit length =
    record { sum = sums test.early test.need; left = refl; same = same_slack test.early test.need }
  where
    sums : (early need : ℤ) → (sep +ℤ early -ℤ need -ℤ unc +ℤ credit) ≡ (sep +ℤ early +ℤ neg_ℤ need +ℤ neg_ℤ unc +ℤ credit)
    sums early need = omega (arith, ints)

    same_slack : (early need : ℤ) → (sep +ℤ early -ℤ need -ℤ unc +ℤ credit -ℤ length) ≡ (early +ℤ sep -ℤ need -ℤ unc +ℤ credit -ℤ length)
    same_slack early need = omega (arith, ints)
parts_add_up Hold test sep unc credit length =
    record { sum = sums test.late test.need; left = refl; same = same_slack test.late test.need }
  where
    sums : (late need : ℤ) → (sep +ℤ late +ℤ need +ℤ unc -ℤ credit) ≡ (sep +ℤ late +ℤ need +ℤ unc +ℤ neg_ℤ credit)
    sums late need = omega (arith, ints)

    same_slack : (late need : ℤ) → (length -ℤ (sep +ℤ late +ℤ need +ℤ unc -ℤ credit)) ≡ (length -ℤ late -ℤ sep -ℤ need -ℤ unc +ℤ credit)
    same_slack late need = omega (arith, ints)

some_is : {X : Type 0} {x y : X} → Some x ≡ Some y → x ≡ y
some_is e = cc

-- of a path with a start, a length and a slack by a test
module _ (d : Design) (kind : Kind) (n : Named) (ms : List Named) (test : Test) (slack : ℤ) (parts : RequiredParts) where
  one_path : (edge : ℕ × Tran) (length : ℤ) → Contains (slacks_from d kind n ms edge length) (test, slack)
      → parts ≡ parts_of d kind n ms edge (credit d (n ∷ ms) edge test) length test → AddUp kind parts slack
  one_path edge length c is =
      let m = in_map_back (λ (x : Test). (x, slack_of d kind n ms edge length x)) (filter (tests_path d kind n ms edge) (option_map_or (tests_at d kind) (node_named d (last_of n ms)) [])) (test, slack) c in
      let its : m.item ≡ test = ap (λ (p : Test × ℤ). p.0) m.same in
      let counts : slack_of d kind n ms edge length test ≡ slack = ap (slack_of d kind n ms edge length) (sym its) ∙ ap (λ (p : Test × ℤ). p.1) m.same in
      subst (λ (p : RequiredParts). AddUp kind p slack) (sym is)
      (subst (λ (s : ℤ). AddUp kind (parts_of d kind n ms edge (credit d (n ∷ ms) edge test) length test) s) counts
      (parts_add_up kind test
      (moved d kind (launch_of d n ms edge) (capture_of d (last_of n ms) test) edge test.capture)
      (uncertainty_on d kind test.capture.0) (credit d (n ∷ ms) edge test) length))

  timed_path : (edge : ℕ × Tran) → Contains (path_slacks d kind (n ∷ ms)) (test, slack)
      → path_edge d (data_split kind) (n ∷ ms) ≡ Some edge
      → ArePartsOf d kind (n ∷ ms) edge (credit d (n ∷ ms) edge test) test parts → AddUp kind parts slack
  timed_path edge c on (length, long, is) =
      by (start_of d (data_split kind) n) refl (walk_delay d (data_split kind) n ms) refl c
    where
      by : (o : Option ((ℕ × Tran) × ℤ)) → start_of d (data_split kind) n ≡ o → (p : Option ℤ) → walk_delay d (data_split kind) n ms ≡ p
          → Contains (option_map_or (λ (e, time). option_map_or (λ sum. slacks_from d kind n ms e (time +ℤ sum)) p []) o []) (test, slack)
          → AddUp kind parts slack
      by None s p w h = absurd (none_in (test, slack) h)
      by (Some (e, time)) s None w h = absurd (none_in (test, slack) h)
      by (Some (e, time)) s (Some sum) w h =
          let same : e ≡ edge = some_is (sym (ap (λ (x : Option ((ℕ × Tran) × ℤ)). option_map (λ (g, t). g) x) s) ∙ on) in
          let all : (time +ℤ sum) ≡ length =
          some_is
          (sym
          (ap (λ (x : Option ((ℕ × Tran) × ℤ)). plus_some (option_and_then (λ (g, t). Some t) x) (walk_delay d (data_split kind) n ms)) s
          ∙ ap (λ (x : Option ℤ). plus_some (Some time) x) w)
          ∙ long) in
          one_path edge length
          (subst (λ (x : ℕ × Tran). Contains (slacks_from d kind n ms x length) (test, slack)) same
          (subst (λ (x : ℤ). Contains (slacks_from d kind n ms e x) (test, slack)) all h))
          is

-- the parts of a timed path add up to the slack of its path
pub timed_adds_up : (d : Design) (kind : Kind) (t : TimedPath) → IsTimed d kind t → AddUp kind t.parts t.path.slack.0
timed_adds_up d kind t (test, ((counts, least), times, on, captured, credited), staged, caught, parted) =
    by (path_named t.path) counts on credited parted
  where
    by : (path : List Named) → Contains (path_slacks d kind path) (test, t.path.slack.0)
        → path_edge d (data_split kind) path ≡ Some (t.path.launch_clock, t.path.launch_tran)
        → t.path.credit.0 ≡ credit d path (t.path.launch_clock, t.path.launch_tran) test
        → ArePartsOf d kind path (t.path.launch_clock, t.path.launch_tran) t.path.credit.0 test t.parts
        → AddUp kind t.parts t.path.slack.0
    by [] c e same are = absurd are
    by (n ∷ ms) c e same are =
        timed_path d kind n ms test t.path.slack.0 t.parts (t.path.launch_clock, t.path.launch_tran) c e
        (subst (λ (x : ℤ). ArePartsOf d kind (n ∷ ms) (t.path.launch_clock, t.path.launch_tran) x test t.parts) same are)

-- what is left out of the first so many comes before none of them
pub left_out : {X : Type 0} (before : X → X → Bool) (count : ℕ) (Is : X → Type 0) (xs : List X) → AreFirst before count Is xs
    → (y : X) → Is y → (Contains xs y → ⊥) → (x : X) → Contains xs x → before y x ≡ false
left_out before zero Is [] first y is out x c = absurd (none_in x c)
left_out before zero Is (z ∷ zs) first y is out x c = absurd first
left_out before (suc count) Is [] first y is out x c = absurd (none_in x c)
left_out {X} before (suc count) Is (z ∷ zs) (one, lowest, rest) y is out x c = elim (in_cases z zs x c) [
  | inl e ↦ subst (λ (w : X). before y w ≡ false) e (lowest y is)
  | inr d ↦
      left_out before count (λ (w : X). Is w × (w ≢ z)) zs rest y
      (is, λ same. out (subst (λ (w : X). Contains (z ∷ zs) w) (sym same) (first_in z zs)))
      (λ more. out (later_in z zs y more)) x d
]

-- no path of the design that is left out comes before one that is given
pub worst_before : (d : Design) (kind : Kind) (count each : ℕ) (paths : List Path) → AreDesignPaths d kind count each paths
    → (r : Ranked) → IsEligible d kind each r → (Contains (map ranked paths) r → ⊥)
    → (p : Ranked) → Contains (map ranked paths) p → comes_before r p ≡ false
worst_before d kind count each paths (held, first) r is out p c =
    left_out comes_before count (IsEligible d kind each) (map ranked paths) first r is out p c
