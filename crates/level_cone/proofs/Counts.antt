-- Counts over the numbers below a bound, and the length of a list of distinct numbers.

use Rattle.std.proofs.Common.{◌≡◌, ℕ, zero, suc, ◌+◌, ◌<◌, ◌≤◌, ◌==◌, Bool, true, false, cond, ◌||◌, List, [], ◌∷◌, length, get_or, refl, sym, subst, ◌∙◌, inl, inr, zero-add, arith}
use Rattle.std.specs.Prelude.{nat_eq, All}
use Rattle.std.specs.List.{count_by, list_any, range_with_len, IsDistinct}
use Rattle.std.specs.List.Sorted.{IsStrictlyIncreasing}
use Rattle.std.proofs.lemmas.Bool.{cases_eq, eq-eqb, ne_eqb, eqb-true}
use Rattle.std.proofs.lemmas.List.Sums.{sum_by-cons}
use Rattle.std.proofs.lemmas.List.Elements.{All-from_recursion, All-head, All-tail}
use Rattle.std.proofs.lemmas.List.Folds.{list_any_none}
use Rattle.std.proofs.lemmas.List.FromFn.{length-range_with_len, get_or-range_with_len}
use Rattle.std.proofs.lemmas.Map.Keys.{IsDistinct-head, IsDistinct-tail, IsDistinct-from_apart, sorted_from_strictly_increasing, below_from_sorted}

pub count_cons : {X : Type 0} (p : X → Bool) (x : X) (xs : List X) → count_by p (x ∷ xs) ≡ cond (p x) 1 0 + count_by p xs
count_cons p x xs = sum_by-cons (λ y. cond (p y) 1 0) x xs

-- a test that is one of two others, never both, counts what both do
pub count_split : {X : Type 0} (p q r : X → Bool) → ((x : X) → cond {A = ℕ} (p x) 1 0 ≡ cond (q x) 1 0 + cond (r x) 1 0) → (xs : List X)
    → count_by p xs ≡ count_by q xs + count_by r xs
count_split p q r parts [] = refl
count_split p q r parts (x ∷ xs) =
    let here = parts x in
    let more = count_split p q r parts xs in
    omega (arith, count_cons p x xs, count_cons q x xs, count_cons r x xs)

pub count_never : {X : Type 0} (xs : List X) → count_by (λ (x : X). false) xs ≡ 0
count_never [] = refl
count_never {X = X} (x ∷ xs) = count_cons (λ (y : X). false) x xs ∙ (let more = count_never xs in omega arith)

unit_le : (a b : Bool) → (a ≡ true → b ≡ true) → cond {A = ℕ} a 1 0 ≤ cond b 1 0
unit_le true b told = rw (told refl) (omega arith)
unit_le false b told = omega arith

-- a test that passes where another does counts no less
pub count_le : {X : Type 0} (p q : X → Bool) → ((x : X) → p x ≡ true → q x ≡ true) → (xs : List X) → count_by p xs ≤ count_by q xs
count_le p q told [] = omega arith
count_le p q told (x ∷ xs) =
    let here = unit_le (p x) (q x) (told x) in
    let more = count_le p q told xs in
    omega (arith, count_cons p x xs, count_cons q x xs)

-- what is true of each number below a bound is true of the range
pub range_all : (P : ℕ → Type 0) (n : ℕ) → ((k : ℕ) → k < n → P k) → All P (range_with_len 0 n)
range_all P n told k d within =
    let low : k < n = omega (arith, within, length-range_with_len 0 n) in
    let at : get_or (range_with_len 0 n) k d ≡ k = get_or-range_with_len 0 n k d low ∙ zero-add k in
    subst P (sym at) (told k low)

count_before : (x a n : ℕ) → x < a → count_by (λ y. x == y) (range_with_len a n) ≡ 0
count_before x a zero less = refl
count_before x a (suc n) less =
    let more = count_before x (a + 1) n (omega arith) in
    let none : cond {A = ℕ} (x == a) 1 0 ≡ 0 = rw (ne_eqb x a (λ e. omega arith)) refl in
    omega (arith, count_cons (λ (y : ℕ). x == y) a (range_with_len (a + 1) n))

-- a number stands once in a range
pub count_one : (x a n : ℕ) → a ≤ x → x < a + n → count_by (λ y. x == y) (range_with_len a n) ≡ 1
count_one x a zero from below = absurd (omega arith)
count_one x a (suc n) from below =
    let parts = count_cons (λ (y : ℕ). x == y) a (range_with_len (a + 1) n) in
    elim (cases_eq x a) [
      | inl same ↦
          let one : cond {A = ℕ} (x == a) 1 0 ≡ 1 = rw (eq-eqb x a same) refl in
          let more = count_before x (a + 1) n (omega arith) in
          omega arith
      | inr other ↦
          let none : cond {A = ℕ} (x == a) 1 0 ≡ 0 = rw (ne_eqb x a other) refl in
          let more = count_one x (a + 1) n (omega arith) (omega arith) in
          omega arith
    ]

pub either_once : (a b : Bool) → (a ≡ true → b ≡ false) → cond {A = ℕ} (a || b) 1 0 ≡ cond a 1 0 + cond b 1 0
either_once true b apart = rw (apart refl) refl
either_once false b apart = sym (zero-add (cond {A = ℕ} b 1 0))

-- a number that differs from each of a list is not in it
apart_none : (x : ℕ) (xs : List ℕ) → All (λ y. nat_eq x y ≡ false) xs → list_any (λ y. y == x) xs ≡ false
apart_none x xs apart = list_any_none (λ y. y == x) xs (λ k d low. ne_eqb (get_or xs k d) x (λ same.
    let other = apart k d low in
    let here : nat_eq x (get_or xs k d) ≡ true = eq-eqb x (get_or xs k d) (sym same) in
    cc))

-- as many numbers below a bound are in a list of distinct ones as it is long
pub members_count : (bound : ℕ) (xs : List ℕ) → IsDistinct nat_eq xs → All (λ x. x < bound) xs
    → count_by (λ n. list_any (λ y. y == n) xs) (range_with_len 0 bound) ≡ length xs
members_count bound [] distinct low = count_never (range_with_len 0 bound)
members_count bound (x ∷ xs) distinct low =
    let apart : list_any (λ y. y == x) xs ≡ false = apart_none x xs (All-from_recursion (λ y. nat_eq x y ≡ false) xs (IsDistinct-head nat_eq x xs distinct)) in
    let parts = count_split (λ (n : ℕ). (x == n) || list_any (λ y. y == n) xs) (λ n. x == n) (λ n. list_any (λ y. y == n) xs)
    (λ n. either_once (x == n) (list_any (λ y. y == n) xs) (λ same.
    subst (λ (m : ℕ). list_any (λ y. y == m) xs ≡ false) (eqb-true x n same) apart)) (range_with_len 0 bound) in
    let here = count_one x 0 bound (omega arith) (omega (arith, All-head (λ (y : ℕ). y < bound) x xs low)) in
    let more = members_count bound xs (IsDistinct-tail nat_eq x xs distinct) (All-tail (λ y. y < bound) x xs low) in
    omega arith

-- a list that rises has each number once
pub rising_distinct : (xs : List ℕ) → IsStrictlyIncreasing xs → IsDistinct nat_eq xs
rising_distinct xs rising = IsDistinct-from_apart nat_eq xs (λ i j d before within.
    ne_eqb (get_or xs i d) (get_or xs j d) (λ same.
    let less = below_from_sorted xs i j d (sorted_from_strictly_increasing xs rising) before within in
    omega arith))
