-- What the fold over candidates and their values gives: the first of greatest value.

use Rattle.std.proofs.Common.{◌≡◌, ℕ, zero, suc, ◌<◌, ℤ, Bool, true, false, if◌then◌else◌, ◌⊎◌, inl, inr, List, [], ◌∷◌, length, Option, Some, None, Result, Ok, Err, IfOk, refl, sym, subst, ◌∙◌, arith, int_lt}
use Rattle.std.specs.Prelude.{◌<ℤ◌, ◌≤ℤ◌, slice_get}
use Rattle.std.proofs.lemmas.Int.{ints}
use Rattle.std.proofs.lemmas.Option.{none-some, same_Some}
use Rattle.sta_units.specs.declared.units.Memory.{Memory}
use Rattle.timing_defs.specs.declared.kinds.Kind.{Kind}
use Rattle.timing_defs.specs.declared.design.Design.{Design}
use Rattle.timing_defs.specs.declared.reports.Candidate.{Candidate}
use Rattle.timing_defs.specs.declared.reports.Advice.{Advice}
use Rattle.timing_rules.specs.Advice.{AreValues, advice_of, best_from, IsAdvice}
use Rattle.sizing_advisor.specs.declared.choices.Best.{Best}
use Rattle.sizing_advisor.specs.Trying.{as_advice, IsBest}
use Rattle.sizing_advisor.specs.Greatest.{IsGreatest, AreNone, IsGreatestOf, IsGreatestAdvice}

less : (v w : ℤ) → int_lt v w ≡ true → v <ℤ w
less v w e = grind (arith, ints)

not_less : (v w : ℤ) → int_lt v w ≡ false → w ≤ℤ v
not_less v w e = grind (arith, ints)

at_most_less : (u v w : ℤ) → u ≤ℤ v → v <ℤ w → u <ℤ w
at_most_less u v w low high = grind (arith, ints)

less_less : (u v w : ℤ) → u <ℤ v → v <ℤ w → u <ℤ w
less_less u v w low high = grind (arith, ints)

less_at_most : (u v w : ℤ) → u ≤ℤ v → v <ℤ w → u ≤ℤ w
less_at_most u v w low high = grind (arith, ints)

abbrev AreAtMost : List (Option ℤ) → ℤ → Type 0
AreAtMost values w = (k : ℕ) (v : ℤ) → slice_get values k ≡ Some (Some v) → v ≤ℤ w

-- one candidate in front of others
at_most_more : (o : Option ℤ) (values : List (Option ℤ)) (w : ℤ) → ((v : ℤ) → o ≡ Some v → v ≤ℤ w) → AreAtMost values w → AreAtMost (o ∷ values) w
at_most_more o values w first most zero v e = first v (same_Some o (Some v) e)
at_most_more o values w first most (suc k) v e = most k v e

behind_first : (o : Option ℤ) (values : List (Option ℤ)) (w : ℤ) → AreAtMost values w → (k : ℕ) (v : ℤ) → 0 < k → slice_get (o ∷ values) k ≡ Some (Some v) → v ≤ℤ w
behind_first o values w most zero v up e = absurd (omega (arith, up))
behind_first o values w most (suc k) v up e = most k v e

first_greatest : (c : Candidate) (w : ℤ) (cs : List Candidate) (values : List (Option ℤ)) → AreAtMost values w → IsGreatest (c ∷ cs) (Some w ∷ values) (advice_of c w)
first_greatest c w cs values most = record {
  place = 0;
  candidate = c;
  value = w;
  there = refl;
  valued = refl;
  told = refl;
  before = λ k v low e. absurd (omega (arith, low));
  behind = behind_first (Some w) values w most;
}

module _ (c : Candidate) (o : Option ℤ) (cs : List Candidate) (values : List (Option ℤ)) (a : Advice) (g : IsGreatest cs values a) where
  before_more : ((v : ℤ) → o ≡ Some v → v <ℤ g.value) → (k : ℕ) (v : ℤ) → k < suc g.place → slice_get (o ∷ values) k ≡ Some (Some v) → v <ℤ g.value
  before_more first zero v low e = first v (same_Some o (Some v) e)
  before_more first (suc k) v low e = g.before k v (omega (arith, low)) e

  behind_more : (k : ℕ) (v : ℤ) → suc g.place < k → slice_get (o ∷ values) k ≡ Some (Some v) → v ≤ℤ g.value
  behind_more zero v up e = absurd (omega (arith, up))
  behind_more (suc k) v up e = g.behind k v (omega (arith, up)) e

  greatest_more : ((v : ℤ) → o ≡ Some v → v <ℤ g.value) → IsGreatest (c ∷ cs) (o ∷ values) a
  greatest_more first = record {
    place = suc g.place;
    candidate = g.candidate;
    value = g.value;
    there = g.there;
    valued = g.valued;
    told = g.told;
    before = before_more first;
    behind = behind_more;
  }

-- the fold from an advice on: it stays, or one of a greater value takes its place
record IsPassed (w : ℤ) (cs : List Candidate) (values : List (Option ℤ)) (best : Option Advice) : Type 0 where
  pub advice : Advice
  pub is : best ≡ Some advice
  pub greatest : IsGreatest cs values advice
  pub above : w <ℤ greatest.value

abbrev IsKept : Advice → List (Option ℤ) → Option Advice → Type 0
IsKept held values best = (best ≡ Some held) × AreAtMost values held.wns.0

abbrev IsFolded : Advice → List Candidate → List (Option ℤ) → Option Advice → Type 0
IsFolded held cs values best = IsKept held values best ⊎ IsPassed held.wns.0 cs values best

passed_more : (w x : ℤ) (c : Candidate) (o : Option ℤ) (cs : List Candidate) (values : List (Option ℤ)) (best : Option Advice) → IsPassed x cs values best
    → ((v : ℤ) → o ≡ Some v → v ≤ℤ x) → w ≤ℤ x → IsPassed w (c ∷ cs) (o ∷ values) best
unfolding greatest_more
passed_more w x c o cs values best p first low = record {
  advice = p.advice;
  is = p.is;
  greatest = greatest_more c o cs values p.advice p.greatest (λ v e. at_most_less v x p.greatest.value (first v e) p.above);
  above = at_most_less w x p.greatest.value low p.above;
}

-- the value in front is none, or not greater
not_taken : (held : Advice) (c : Candidate) (o : Option ℤ) (cs : List Candidate) (values : List (Option ℤ)) (best : Option Advice) → ((v : ℤ) → o ≡ Some v → v ≤ℤ held.wns.0)
    → IsFolded held cs values best → IsFolded held (c ∷ cs) (o ∷ values) best
not_taken held c o cs values best first (inl kept) = inl (kept.0, at_most_more o values held.wns.0 first kept.1)
not_taken held c o cs values best first (inr passed) = inr (passed_more held.wns.0 held.wns.0 c o cs values best passed first (grind (arith, ints)))

-- it is taken
taken_passed : (w v : ℤ) (c : Candidate) (cs : List Candidate) (values : List (Option ℤ)) (best : Option Advice) → w <ℤ v → IsFolded (advice_of c v) cs values best
    → IsPassed w (c ∷ cs) (Some v ∷ values) best
unfolding first_greatest
taken_passed w v c cs values best low (inl kept) = record { advice = advice_of c v; is = kept.0; greatest = first_greatest c v cs values kept.1; above = low }
taken_passed w v c cs values best low (inr passed) =
    passed_more w v c (Some v) cs values best passed (λ x e. subst (λ y. y ≤ℤ v) (same_Some v x e) (grind (arith, ints))) (grind (arith, ints))

folded_by : (held : Advice) (c : Candidate) (v : ℤ) (cs : List Candidate) (values : List (Option ℤ)) (is_less : Bool) → int_lt held.wns.0 v ≡ is_less
    → IsFolded (advice_of c v) cs values (best_from (Some (advice_of c v)) cs values) → IsFolded held cs values (best_from (Some held) cs values)
    → IsFolded held (c ∷ cs) (Some v ∷ values) (best_from (if is_less then Some (advice_of c v) else Some held) cs values)
folded_by held c v cs values true e new old = inr (taken_passed held.wns.0 v c cs values (best_from (Some (advice_of c v)) cs values) (less held.wns.0 v e) new)
folded_by held c v cs values false e new old =
    not_taken held c (Some v) cs values (best_from (Some held) cs values) (λ x same. subst (λ y. y ≤ℤ held.wns.0) (same_Some v x same) (not_less held.wns.0 v e)) old

folded : (held : Advice) (cs : List Candidate) (values : List (Option ℤ)) → length cs ≡ length values → IsFolded held cs values (best_from (Some held) cs values)
folded held [] [] long = inl (refl, λ k v e. absurd (none-some (Some v) e))
folded held [] (o ∷ values) long = absurd (omega (arith, long))
folded held (c ∷ cs) [] long = absurd (omega (arith, long))
folded held (c ∷ cs) (None ∷ values) long =
    not_taken held c None cs values (best_from (Some held) cs values) (λ v e. absurd (none-some v e)) (folded held cs values (omega (arith, long)))
folded held (c ∷ cs) (Some v ∷ values) long =
    folded_by held c v cs values (int_lt held.wns.0 v) refl (folded (advice_of c v) cs values (omega (arith, long))) (folded held cs values (omega (arith, long)))

none_first : (c : Candidate) (cs : List Candidate) (values : List (Option ℤ)) (best : Option Advice) → IsGreatestOf cs values best → IsGreatestOf (c ∷ cs) (None ∷ values) best
none_first c cs values None none = here
  where
    here : AreNone (None ∷ values)
    here zero v e = none-some v (same_Some None (Some v) e)
    here (suc k) v e = none k v e
none_first c cs values (Some a) g = greatest_more c None cs values a g (λ v e. absurd (none-some v e))

-- the fold from none on
pub greatest_of : (cs : List Candidate) (values : List (Option ℤ)) → length cs ≡ length values → IsGreatestOf cs values (best_from None cs values)
greatest_of [] [] long = λ k v e. none-some (Some v) e
greatest_of [] (o ∷ values) long = absurd (omega (arith, long))
greatest_of (c ∷ cs) [] long = absurd (omega (arith, long))
greatest_of (c ∷ cs) (None ∷ values) long = none_first c cs values (best_from None cs values) (greatest_of cs values (omega (arith, long)))
greatest_of (c ∷ cs) (Some v ∷ values) long = elim (folded (advice_of c v) cs values (omega (arith, long))) [
  | inl kept ↦ subst (IsGreatestOf (c ∷ cs) (Some v ∷ values)) (sym kept.0) (first_greatest c v cs values kept.1)
  | inr passed ↦
      subst (IsGreatestOf (c ∷ cs) (Some v ∷ values)) (sym passed.is)
      (greatest_more c (Some v) cs values passed.advice passed.greatest (λ x e. subst (λ y. y <ℤ passed.greatest.value) (same_Some v x e) passed.above))
]

-- what is advised is the first of greatest value
pub best_is_greatest : (cs : List Candidate) (values : List (Option ℤ)) → length cs ≡ length values → (a : Advice) → best_from None cs values ≡ Some a → IsGreatest cs values a
best_is_greatest cs values long a e = subst (IsGreatestOf cs values) e (greatest_of cs values long)

-- nothing is advised exactly where no candidate has a value
pub none_is_advised : (cs : List Candidate) (values : List (Option ℤ)) → length cs ≡ length values → best_from None cs values ≡ None → AreNone values
none_is_advised cs values long e = subst (IsGreatestOf cs values) e (greatest_of cs values long)

pub none_without_values : (cs : List Candidate) (values : List (Option ℤ)) → length cs ≡ length values → AreNone values → best_from None cs values ≡ None
none_without_values cs values long none = by (best_from None cs values) refl
  where
    by : (best : Option Advice) → best_from None cs values ≡ best → best_from None cs values ≡ None
    by None e = e
    by (Some a) e = let g = best_is_greatest cs values long a e in absurd (none g.place g.value g.valued)

values_long : (d : Design) (kind : Kind) (cs : List Candidate) (values : List (Option ℤ)) → AreValues d kind cs values → length cs ≡ length values
values_long d kind [] [] tried = refl
values_long d kind [] (o ∷ values) tried = absurd tried
values_long d kind (c ∷ cs) [] tried = absurd tried
values_long d kind (c ∷ cs) (o ∷ values) tried = omega (arith, values_long d kind cs values tried.1)

-- so it is of each advice
pub advice_is_greatest : (d : Design) (kind : Kind) (cs : List Candidate) (advice : Option Advice) → IsAdvice d kind cs advice → IsGreatestAdvice d kind cs advice
advice_is_greatest d kind cs advice is = record {
  values = is.0;
  tried = is.1;
  greatest = subst (IsGreatestOf cs is.0) (sym is.2) (greatest_of cs is.0 (values_long d kind cs is.0 is.1));
}

pub greatest_told : (d : Design) (kind : Kind) (cs : List Candidate) (r : Result (Option Advice) Memory) → IfOk r (IsAdvice d kind cs) → IfOk r (IsGreatestAdvice d kind cs)
greatest_told d kind cs (Ok advice) is = advice_is_greatest d kind cs advice is
greatest_told d kind cs (Err m) is = tt
