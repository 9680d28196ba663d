-- Counting the stops that are passed.

use Rattle.std.proofs.Common.{◌≡◌, ℕ, ◌+◌, ◌<◌, ◌≤◌, Bool, true, false, ◌==◌, if◌then◌else◌, inl, inr, List, [], ◌∷◌, length, Option, Some, None, refl, sym, ap, ◌∙◌, arith}
use Rattle.std.specs.Prelude.{slice_get, slice_index}
use Rattle.std.proofs.lemmas.Bool.{cases_lt, ne_eqb, false≢true}
use Rattle.std.proofs.lemmas.Option.{slice_get_past, slice_get_within}
use Rattle.std.proofs.Math.Nat.{min-eq_left, min-eq_right}
use Rattle.through_walks.specs.declared.stops.Stop.{Stop}
use Rattle.through_walks.specs.Through.{stands_at, next_stop, passed, passes}
use Rattle.through_walks.specs.Layers.{first_stage}

next_low-by : (k m s : ℕ) (at : Bool) → s < k → m < k → (at ≡ true → s < m) → (if at then s + 1 else s) < k
next_low-by k m s true low under there = let more = there refl in omega arith
next_low-by k m s false low under there = low

stands : (stops : List Stop) (s n : ℕ) (o : Option Stop) → slice_get stops s ≡ o → stands_at o n ≡ true → s < length stops
stands stops s n None e at = absurd (false≢true at)
stands stops s n (Some stop) e at = slice_get_within stops s stop e

-- stages stay below a bound
pub next_low : (stops : List Stop) (k s n : ℕ) → s < k → length stops < k → next_stop stops s n < k
next_low stops k s n low under =
    next_low-by k (length stops) s (stands_at (slice_get stops s) n) low under (stands stops s n (slice_get stops s) refl)

-- where all are passed no more are
next_past : (stops : List Stop) (s n : ℕ) → length stops ≤ s → next_stop stops s n ≡ s
next_past stops s n high = ap (λ o. if stands_at o n then s + 1 else s) (slice_get_past stops s high)

passed_past : (stops : List Stop) (s : ℕ) (ns : List ℕ) → length stops ≤ s → passed stops s ns ≡ s
passed_past stops s [] high = refl
passed_past stops s (n ∷ ns) high = ap (λ t. passed stops t ns) (next_past stops s n high) ∙ passed_past stops s ns high

not_all : (stops : List Stop) (s : ℕ) (ns : List ℕ) → length stops < s → (passed stops s ns == length stops) ≡ false
not_all stops s ns high =
    ap (λ t. t == length stops) (passed_past stops s ns (omega arith)) ∙ ne_eqb s (length stops) (λ e. omega (arith, e, high))

-- a walk passes all stops from its first stage exactly where it does
pub passes_on : (stops : List Stop) (begun : List ℕ) (n : ℕ) (ns : List ℕ)
    → (passed stops (first_stage stops begun n) ns == length stops) ≡ passes stops begun (n ∷ ns)
passes_on stops begun n ns = elim (cases_lt (length stops) (slice_index begun n)) [
  | inl more ↦
      let is : first_stage stops begun n ≡ length stops + 1 = min-eq_right (omega arith) in
      not_all stops (first_stage stops begun n) ns (omega (arith, is)) ∙ sym (not_all stops (slice_index begun n) ns more)
  | inr few ↦ ap (λ t. passed stops t ns == length stops) (min-eq_left (omega arith))
]
