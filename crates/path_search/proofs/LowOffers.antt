-- No launch on an edge offers less than the lowest offer there, less its arrival.

use Rattle.std.proofs.Common.{◌≡◌, ◌⊎◌, ℕ, ◌+◌, ◌≤◌, ℤ, pos, ◌+ℤ◌, ◌-ℤ◌, ◌≤ℤ◌, Bool, true, false, cond, int_lt, List, [], ◌∷◌, length, Option, None, Some, ap, subst, inl, inr, arith}
use Rattle.std.specs.Prelude.{All, Contains, option_map, if◌then◌else◌}
use Rattle.std.proofs.lemmas.Int.{ints}
use Rattle.std.proofs.lemmas.List.Elements.{All-contains}
use Rattle.timing_defs.specs.declared.edge_times.EdgeTime.{EdgeTime}
use Rattle.timing_defs.specs.declared.kinds.Kind.{Kind}
use Rattle.timing_defs.specs.declared.kinds.Kind.TheVariants.{Setup, Hold}
use Rattle.timing_defs.specs.declared.kinds.Split.TheVariants.{Early}
use Rattle.timing_defs.specs.declared.kinds.Tran.{Tran}
use Rattle.timing_defs.specs.declared.design.Design.{Design}
use Rattle.timing_rules.specs.Paths.{moved}
use Rattle.timing_rules.specs.Rows.{edge_time, launch_edges, outer_some, outermost}
use Rattle.timing_rules.specs.Rules.{is_tested}
use Rattle.timing_rules.specs.Tests.{uncertainty_on}
use Rattle.netlist_store.specs.Linked.{IsLinked}
use Rattle.timing_defs.proofs.Members.{first_in, in_filter_map, later_in, some_is}
use Rattle.pessimism_credit.specs.declared.rows.TreeRow.{TreeRow}
use Rattle.pessimism_credit.proofs.Lowest.{credit_least}
use Rattle.path_search.specs.declared.ends.EndTest.{EndTest}
use Rattle.path_search.specs.declared.launches.LaunchNode.{LaunchNode}
use Rattle.path_search.specs.Launches.{signed}
use Rattle.path_search.specs.Lows.{low_apart, low_credit, capture_on, low_told, low_over, lows_told}
use Rattle.path_search.specs.Slacks.{IsReadyLaunch, IsReadyTest, credit_told, edge_of_node, least_slack, slack_told, slack_where}
use Rattle.path_search.proofs.LowParts.{IsLessFor, least_low, moved_less}
use Rattle.path_search.proofs.OfferLaws.{lesser}

credit_less : (rows : List TreeRow) (a b : Option ℕ) → low_credit rows b ≤ℤ credit_told rows a b
credit_less rows None None = omega (arith, ints)
credit_less rows (Some a) None = omega (arith, ints)
credit_less rows None (Some b) = least_low rows b
credit_less rows (Some a) (Some b) = credit_least rows a b

-- a slack by the parts of its test
abbrev pub slack_parts : Kind → ℤ → ℤ → ℤ → ℤ → ℤ → ℤ → ℤ → ℤ
slack_parts Setup early late need sep unc credit length = early +ℤ sep -ℤ need -ℤ unc +ℤ credit -ℤ length
slack_parts Hold early late need sep unc credit length = length -ℤ late -ℤ sep -ℤ need -ℤ unc +ℤ credit

slack_less : (kind : Kind) (early late need unc low sep less credit time : ℤ) → IsLessFor kind low sep → less ≤ℤ credit
    → (slack_parts kind early late need low unc less (pos 0) -ℤ signed kind time) ≤ℤ slack_parts kind early late need sep unc credit time
slack_less Setup early late need unc low sep less credit time a b = omega (arith, ints, a, b)
slack_less Hold early late need unc low sep less credit time a b = omega (arith, ints, a, b)

module _ (d : Design) (linked : IsLinked d) (kind : Kind) (rows : List TreeRow) where
  -- by one test
  told_less : (l : LaunchNode) → IsReadyLaunch d l → (t : EndTest) → IsReadyTest d t
      → (low_told d kind rows (edge_of_node l) t -ℤ signed kind l.time.0) ≤ℤ slack_told d kind rows l t
  told_less l ready t test = by kind (moved_less d linked kind rows l.launch t.capture (edge_of_node l) (capture_on t) ready.clock test.clock)
    where
      by : (k : Kind) → IsLessFor k (low_apart d k (edge_of_node l) (capture_on t)) (moved d k l.launch t.capture (edge_of_node l) (capture_on t))
          → (low_told d k rows (edge_of_node l) t -ℤ signed k l.time.0) ≤ℤ slack_told d k rows l t
      by Setup a =
          slack_less Setup t.test.early.0 t.test.late.0 t.test.need.0 (uncertainty_on d Setup t.test.capture_clock) (low_apart d Setup (edge_of_node l) (capture_on t))
          (moved d Setup l.launch t.capture (edge_of_node l) (capture_on t)) (low_credit rows t.place) (credit_told rows l.place t.place) l.time.0 a (credit_less rows l.place t.place)
      by Hold a =
          slack_less Hold t.test.early.0 t.test.late.0 t.test.need.0 (uncertainty_on d Hold t.test.capture_clock) (low_apart d Hold (edge_of_node l) (capture_on t))
          (moved d Hold l.launch t.capture (edge_of_node l) (capture_on t)) (low_credit rows t.place) (credit_told rows l.place t.place) l.time.0 a (credit_less rows l.place t.place)

-- the least of some values and of others that are less
record IsUnder (s : ℤ) (low : Option ℤ) (o : ℤ) : Type 0 where
  pub value : ℤ
  pub is : low ≡ Some value
  pub under : (value -ℤ s) ≤ℤ o

pub either : (a b : Option ℤ) (o : ℤ) → outer_some Early a b ≡ Some o → (a ≡ Some o) ⊎ (b ≡ Some o)
either None b o e = inr e
either (Some x) None o e = inl e
either (Some x) (Some y) o e = by (int_lt y x) e
  where
    by : (t : Bool) → Some (cond t y x) ≡ Some o → (Some x ≡ Some o) ⊎ (Some y ≡ Some o)
    by true f = inr f
    by false f = inl f

less_trans : (y b s o : ℤ) → y ≤ℤ b → (b -ℤ s) ≤ℤ o → (y -ℤ s) ≤ℤ o
less_trans y b s o p q = omega (arith, ints, p, q)

module _ {X : Type 0} (s : ℤ) (f : X → Option ℤ) (g : X → ℤ) where
  under_more : (a b : Option ℤ) (x : X) → ((o : ℤ) → a ≡ Some o → IsUnder s b o) → ((o : ℤ) → f x ≡ Some o → (g x -ℤ s) ≤ℤ o)
      → (o : ℤ) → outer_some Early a (f x) ≡ Some o → IsUnder s (outer_some Early b (Some (g x))) o
  under_more a b x before here o e =
      let m = lesser b (g x) in
      elim (either a (f x) o e) [
        | inl first ↦ (let u = before o first in record { value = m.0; is = m.1; under = less_trans m.0 u.value s o (m.2.before u.value u.is) u.under })
        | inr last ↦ record { value = m.0; is = m.1; under = less_trans m.0 (g x) s o m.2.low (here o last) }
      ]

  under_all : (xs : List X) (a b : Option ℤ) → ((o : ℤ) → a ≡ Some o → IsUnder s b o) → ((x : X) → Contains xs x → (o : ℤ) → f x ≡ Some o → (g x -ℤ s) ≤ℤ o)
      → (o : ℤ) → outermost Early f a xs ≡ Some o → IsUnder s (outermost Early (λ x. Some (g x)) b xs) o
  under_all [] a b before each = before
  under_all (x ∷ xs) a b before each =
      under_all xs (outer_some Early a (f x)) (outer_some Early b (Some (g x))) (under_more a b x before (each x (first_in x xs)))
      (λ y c. each y (later_in x xs y c))

-- an offer is at least the lowest one on its edge, less the arrival there
pub record IsOfferedOn (lows : List EdgeTime) (edge : ℕ × Tran) (time offer : ℤ) : Type 0 where
  pub low : ℤ
  pub within : Contains lows (edge_time edge low)
  pub least : (low -ℤ time) ≤ℤ offer

module _ (d : Design) (linked : IsLinked d) (kind : Kind) (rows : List TreeRow) (l : LaunchNode) (ready : IsReadyLaunch d l) (tests : List EndTest) (all : All (IsReadyTest d) tests) where
  pub offered_low : (o : ℤ) → least_slack d kind rows l tests ≡ Some o → Contains (launch_edges d) (edge_of_node l)
      → IsOfferedOn (lows_told d kind rows tests) (edge_of_node l) (signed kind l.time.0) o
  offered_low o e c =
      let u = under_all (signed kind l.time.0) (slack_where d kind rows l) (λ t. low_told d kind rows (edge_of_node l) t) tests None None (λ x f. absurd (cc)) each o e in
      record {
        low = u.value;
        within =
            in_filter_map (λ edge. option_map (edge_time edge) (low_over d kind rows tests edge)) (launch_edges d) (edge_of_node l) (edge_time (edge_of_node l) u.value) c
            (ap (option_map (edge_time (edge_of_node l))) u.is);
        least = u.under;
      }
    where
      each : (t : EndTest) → Contains tests t → (x : ℤ) → slack_where d kind rows l t ≡ Some x → (low_told d kind rows (edge_of_node l) t -ℤ signed kind l.time.0) ≤ℤ x
      each t m x f = by (is_tested d.constraints kind l.launch t.capture) f
        where
          by : (b : Bool) → (if b then Some (slack_told d kind rows l t) else None) ≡ Some x → (low_told d kind rows (edge_of_node l) t -ℤ signed kind l.time.0) ≤ℤ x
          by false g = absurd (cc)
          by true g =
              subst (λ (z : ℤ). (low_told d kind rows (edge_of_node l) t -ℤ signed kind l.time.0) ≤ℤ z) (some_is g)
              (told_less d linked kind rows l ready t (All-contains (IsReadyTest d) tests t all m))
