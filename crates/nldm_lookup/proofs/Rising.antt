-- Axes: they rise, their entries are within the limit, and a partition point counts what passes.
use Rattle.std.proofs.Common.{◌≡◌, ℕ, zero, suc, ◌+◌, ◌-◌, ◌<◌, ◌≤◌, ℤ, pos, ◌<ℤ◌, ◌≤ℤ◌, unsigned_abs, Bool, true, false, cond, ◌==◌, int_lt, int_le, nat_le, List, [], ◌∷◌, length, get_or, drop, refl, sym, ap, subst, ◌∙◌, inl, inr, arith}
use Rattle.std.proofs.lemmas.Bool.{and_parts, cases_lt}
use Rattle.std.proofs.lemmas.Bool.Decides.{nat_tests}
use Rattle.std.proofs.lemmas.Int.{ints}
use Rattle.std.proofs.lemmas.List.{get_or-take, get_or-drop, length-take}
use Rattle.std.proofs.lemmas.List.Sums.{sum_by-cons}
use Rattle.std.specs.List.{list_all, count_by, slice_range}
use Rattle.std.specs.List.Sorted.{IsPartitionedBy, IsPartitionPoint}
use Rattle.sta_units.specs.Numbers.{limit, is_within}
use Rattle.timing_defs.specs.Lookup.{line, segment, along, is_rising, is_axis}
use borrow.Author.Differences.{le-true, le-false, lt-true}

-- each element passes a test that all pass
pub all_at : {X : Type 0} (p : X → Bool) (xs : List X) (i : ℕ) (d : X) → list_all p xs ≡ true → i < length xs → p (get_or xs i d) ≡ true
all_at p [] i d h l = absurd (omega arith)
all_at p (x ∷ xs) zero d h l = (and_parts _ _ h).0
all_at p (x ∷ xs) (suc i) d h l = all_at p xs i d (and_parts _ _ h).1 (omega arith)

pub entry_within : (xs : List ℤ) (i : ℕ) (d : ℤ) → list_all is_within xs ≡ true → i < length xs → unsigned_abs (get_or xs i d) ≤ limit
entry_within xs i d h l =
    let test : nat_le (unsigned_abs (get_or xs i d)) limit ≡ true = all_at is_within xs i d h l in
    grind (arith, nat_tests)

-- an entry is below each later one
pub rises : (xs : List ℤ) (i j : ℕ) (d : ℤ) → is_rising xs ≡ true → i < j → j < length xs → get_or xs i d <ℤ get_or xs j d
rises [] i j d h l m = absurd (omega arith)
rises (x ∷ xs) zero (suc j) d h l m =
    let below = lt-true x (get_or xs j d) (all_at (int_lt x) xs j d (and_parts _ _ h).0 (omega arith)) in
    omega (arith, ints)
rises (x ∷ xs) (suc i) (suc j) d h l m = rises xs i j d (and_parts _ _ h).1 (omega arith) (omega arith)
rises (x ∷ xs) i zero d h l m = absurd (omega arith)

-- what is not above a number, a smaller one is neither
le_below : (a b n : ℤ) → a ≤ℤ b → int_le b n ≡ true → int_le a n ≡ true
le_below a b n h e = elim (int_le a n) as (λ v. int_le a n ≡ v → v ≡ true) [
  | true ↦ λ f. refl
  | false ↦ λ f.
      let over = le-false a n f in
      let under = le-true b n e in
      absurd (omega (arith, ints))
] refl

rises_to : (xs : List ℤ) (i j : ℕ) (d : ℤ) → is_rising xs ≡ true → i ≤ j → j < length xs → get_or xs i d ≤ℤ get_or xs j d
rises_to xs i j d h l m = elim (cases_lt i j) [
  | inl less ↦
      let up = rises xs i j d h less m in
      omega (arith, ints)
  | inr more ↦
      let same : i ≡ j = omega arith in
      rw same (omega (arith, ints))
]

-- an entry of a part of a list
part_at : (xs : List ℤ) (a b i : ℕ) (d : ℤ) → i < b - a → get_or (slice_range xs a b) i d ≡ get_or xs (a + i) d
part_at xs a b i d l = get_or-take (b - a) (drop a xs) i d l ∙ get_or-drop a xs i d

-- the entries of an axis that are not above a number come first, in each part of it
pub rising_parted : (xs : List ℤ) (x : ℤ) (a b : ℕ) → b ≤ length xs → is_rising xs ≡ true → IsPartitionedBy (λ e. int_le e x) (slice_range xs a b)
rising_parted xs x a b fits h i j d l m e =
    let size = length-take (b - a) (drop a xs) in
    let low : get_or (slice_range xs a b) i d ≡ get_or xs (a + i) d = part_at xs a b i d (omega arith) in
    let high : get_or (slice_range xs a b) j d ≡ get_or xs (a + j) d = part_at xs a b j d (omega arith) in
    let up = rises_to xs (a + i) (a + j) d h (omega arith) (omega arith) in
    subst (λ v. int_le v x ≡ true) (sym low) (le_below _ _ _ up (subst (λ v. int_le v x ≡ true) high e))

-- what an element adds to the number of those that pass
abbrev passed : Bool → ℕ
passed b = cond b 1 0

-- a partition point is the number of elements that pass
pub count_from_point : {X : Type 0} (p : X → Bool) (xs : List X) (r : ℕ) → r ≤ length xs → IsPartitionPoint (λ y. p y ≡ true) (λ y. p y ≡ false) xs r → count_by p xs ≡ r
count_from_point p [] r bound point =
    let none : r ≡ 0 = omega arith in
    rw none refl
count_from_point p (x ∷ xs) zero bound point =
    let first : p x ≡ false = point.1 0 x (omega arith) (omega arith) in
    let rest = count_from_point p xs 0 (omega arith) ((λ k e l m. absurd (omega arith)), λ k e l m. point.1 (suc k) e (omega arith) (omega arith)) in
    let step = sum_by-cons (λ y. passed (p y)) x xs in
    let added = ap passed first in
    omega (arith, step, rest, added)
count_from_point p (x ∷ xs) (suc r) bound point =
    let first : p x ≡ true = point.0 0 x (omega arith) (omega arith) in
    let rest = count_from_point p xs r (omega arith) ((λ k e l m. point.0 (suc k) e (omega arith) (omega arith)), λ k e l m. point.1 (suc k) e (omega arith) (omega arith)) in
    let step = sum_by-cons (λ y. passed (p y)) x xs in
    let added = ap passed first in
    omega (arith, step, rest, added)

-- an axis rises
pub axis_rises : (xs : List ℤ) → is_axis xs ≡ true → is_rising xs ≡ true
axis_rises xs h = (and_parts _ _ (and_parts _ _ h).0).1

-- look-up along an axis of one entry
pub along_constant : (axis : List ℤ) (at : ℕ → ℤ) (x : ℤ) → length axis ≡ 1 → along axis at x ≡ at 0
along_constant axis at x h =
    let test : (length axis == 1) ≡ true = grind (arith, nat_tests) in
    rw test refl

-- and along one of more entries, by the line through two neighbours
pub along_line : (axis : List ℤ) (at : ℕ → ℤ) (x : ℤ) (i : ℕ) (p q a b : ℤ) → (length axis ≡ 1 → ⊥) → i ≡ segment axis x
    → p ≡ at i → q ≡ at (i + 1) → a ≡ get_or axis i (pos 0) → b ≡ get_or axis (i + 1) (pos 0) → line p q a b x ≡ along axis at x
along_line axis at x i p q a b more place low high from to =
    let test : (length axis == 1) ≡ false = grind (arith, nat_tests) in
    rw (test, low, high, from, to, place) refl
