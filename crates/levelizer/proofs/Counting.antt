-- Counting by tests that part or agree, and the numbers below a bound that stand once in a list.
use Rattle.std.proofs.Common.{◌≡◌, ℕ, zero, suc, ◌+◌, ◌<◌, ◌≤◌, ◌==◌, Bool, true, false, cond, List, [], ◌∷◌, length, get_or, take, refl, ap, sym, ◌∙◌, inl, inr, arith}
use Rattle.std.specs.Prelude.{nat_lt}
use Rattle.std.specs.List.{count_by, list_any}
use Rattle.std.proofs.lemmas.Bool.{cases_Bool, lt-ltb, le-ltb}
use Rattle.std.proofs.lemmas.Bool.Decides.{nat_tests}
use Rattle.std.proofs.lemmas.List.Sums.{sum_by-cons, count_by_more_yes, count_by_more_no}

pub one_if : (b : Bool) → b ≡ true → cond {A = ℕ} b 1 0 ≡ 1
one_if b e = rw e refl

pub none_if : (b : Bool) → b ≡ false → cond {A = ℕ} b 1 0 ≡ 0
none_if b e = rw e refl

-- one more element at the front
pub count_cons : {X : Type 0} (p : X → Bool) (x : X) (xs : List X) → count_by p (x ∷ xs) ≡ cond (p x) 1 0 + count_by p xs
count_cons p x xs = sum_by-cons (λ y. cond (p y) 1 0) x xs

-- a test that is either of two others counts what both do
pub count_split : {X : Type 0} (p q r : X → Bool) → ((x : X) → cond (p x) 1 0 ≡ cond (q x) 1 0 + cond (r x) 1 0) → (xs : List X) → count_by p xs ≡ count_by q xs + count_by r xs
count_split p q r h [] = refl
count_split p q r h (x ∷ xs) =
    let here = h x in
    let more = count_split p q r h xs in
    omega (arith, count_cons p x xs, count_cons q x xs, count_cons r x xs)

-- tests that agree count the same
pub count_same : {X : Type 0} (p q : X → Bool) → ((x : X) → p x ≡ q x) → (xs : List X) → count_by p xs ≡ count_by q xs
count_same p q h [] = refl
count_same p q h (x ∷ xs) =
    count_cons p x xs ∙ rw (h x) (ap (λ n. cond (q x) 1 0 + n) (count_same p q h xs)) ∙ sym (count_cons q x xs)

-- one place more of a count
pub count_more : {X : Type 0} (p : X → Bool) (xs : List X) (i : ℕ) (d : X) → i < length xs → count_by p (take (i + 1) xs) ≡ count_by p (take i xs) + cond (p (get_or xs i d)) 1 0
count_more p xs i d h =
    elim (cases_Bool (p (get_or xs i d))) [
      | inl here ↦ let e = count_by_more_yes p xs i d h here in rw here e
      | inr none ↦ let e = count_by_more_no p xs i d h none in rw none (let z : count_by p (take i xs) + 0 ≡ count_by p (take i xs) = omega arith in e ∙ sym z)
    ]

-- a number is below the next one where it is below this one or is it
pub below_next : (a m k : ℕ) → k ≡ m + 1 → cond (nat_lt a k) 1 0 ≡ cond (nat_lt a m) 1 0 + cond (a == m) 1 0
below_next a m k e = grind (arith, nat_tests)

none_below : (xs : List ℕ) → count_by (λ x. nat_lt x 0) xs ≡ 0
none_below [] = refl
none_below (x ∷ xs) =
    let none : nat_lt x 0 ≡ false = le-ltb x 0 (omega arith) in
    let nil = none_if (nat_lt x 0) none in
    let more = none_below xs in
    omega (arith, count_cons (λ (y : ℕ). nat_lt y 0) x xs)

-- a list in which each number below a bound stands at most once has at most that many numbers below it
pub few : (xs : List ℕ) → ((m : ℕ) → count_by (λ x. x == m) xs ≤ 1) → (n : ℕ) → count_by (λ x. nat_lt x n) xs ≤ n
few xs once zero = let none = none_below xs in omega arith
few xs once (suc n) =
    let parts = count_split (λ (x : ℕ). nat_lt x (suc n)) (λ x. nat_lt x n) (λ x. x == n) (λ x. below_next x n (suc n) (omega arith)) xs in
    let here = once n in
    let below = few xs once n in
    omega arith

-- where all pass, all count
pub count_all : {X : Type 0} (p : X → Bool) (xs : List X) → ((k : ℕ) (d : X) → k < length xs → p (get_or xs k d) ≡ true) → count_by p xs ≡ length xs
count_all p [] h = refl
count_all p (x ∷ xs) h =
    let passes : p x ≡ true = h 0 x (omega arith) in
    let more : count_by p xs ≡ length xs = count_all p xs (λ k d l. h (suc k) d (omega arith)) in
    let one = one_if (p x) passes in
    omega (arith, count_cons p x xs)

head_fails : {X : Type 0} (p : X → Bool) (x : X) (xs : List X) → count_by p (x ∷ xs) ≡ 0 → (p x ≡ false) × (count_by p xs ≡ 0)
head_fails p x xs e =
    let parts = count_cons p x xs in
    elim (cases_Bool (p x)) [
      | inl here ↦ let one = one_if (p x) here in absurd (omega arith)
      | inr none ↦ (none, omega arith)
    ]

-- a count of none shows that each fails
pub none_passes : {X : Type 0} (p : X → Bool) (xs : List X) → count_by p xs ≡ 0 → (k : ℕ) (d : X) → k < length xs → p (get_or xs k d) ≡ false
none_passes p [] e k d l = absurd (omega arith)
none_passes p (x ∷ xs) e zero d l = (head_fails p x xs e).0
none_passes p (x ∷ xs) e (suc k) d l = none_passes p xs (head_fails p x xs e).1 k d (omega arith)

-- a count of some shows one that passes
pub some_passes : {X : Type 0} (p : X → Bool) (xs : List X) → 0 < count_by p xs → (k : ℕ) × (x : X) × (k < length xs) × (get_or xs k x ≡ x) × (p x ≡ true)
some_passes p [] h = absurd (omega arith)
some_passes p (x ∷ xs) h =
    let parts = count_cons p x xs in
    elim (cases_Bool (p x)) [
      | inl here ↦ (0, x, omega arith, refl, here)
      | inr none ↦
          let nil = none_if (p x) none in
          let found = some_passes p xs (omega arith) in
          (suc found.0, found.1, omega (arith, found.2), found.3, found.4)
    ]

-- something that passes is counted
pub counts_at : {X : Type 0} (p : X → Bool) (xs : List X) (k : ℕ) (d : X) → k < length xs → p (get_or xs k d) ≡ true → 0 < count_by p xs
counts_at p [] k d l passes = absurd (omega arith)
counts_at p (x ∷ xs) zero d l passes = let parts = count_cons p x xs in let one = one_if (p x) passes in omega arith
counts_at p (x ∷ xs) (suc k) d l passes = let parts = count_cons p x xs in let more = counts_at p xs k d (omega arith) passes in omega arith

-- a test passes somewhere where its count is not 0
pub list_any-from_count : {X : Type 0} (p : X → Bool) (xs : List X) → list_any p xs ≡ nat_lt 0 (count_by p xs)
list_any-from_count p [] = refl
list_any-from_count p (x ∷ xs) =
    let parts = count_cons p x xs in
    elim (cases_Bool (p x)) [
      | inl here ↦
          let one = one_if (p x) here in
          let some : nat_lt 0 (count_by p (x ∷ xs)) ≡ true = lt-ltb 0 (count_by p (x ∷ xs)) (omega arith) in
          let left : list_any p (x ∷ xs) ≡ true = rw here refl in
          left ∙ sym some
      | inr none ↦
          let same : count_by p (x ∷ xs) ≡ count_by p xs = let nil = none_if (p x) none in omega arith in
          let left : list_any p (x ∷ xs) ≡ list_any p xs = rw none refl in
          left ∙ list_any-from_count p xs ∙ ap (λ n. nat_lt 0 n) (sym same)
    ]

-- tests that agree on a list count the same there
pub count_agree : {X : Type 0} (p q : X → Bool) (xs : List X) → ((k : ℕ) (d : X) → k < length xs → p (get_or xs k d) ≡ q (get_or xs k d)) → count_by p xs ≡ count_by q xs
count_agree p q [] h = refl
count_agree p q (x ∷ xs) h =
    let here : p x ≡ q x = h 0 x (omega arith) in
    count_cons p x xs ∙ rw here (ap (λ n. cond (q x) 1 0 + n) (count_agree p q xs (λ k d l. h (suc k) d (omega arith)))) ∙ sym (count_cons q x xs)

-- a unit that is not 0 shows its test
pub if_one : (b : Bool) → 0 < cond {A = ℕ} b 1 0 → b ≡ true
if_one true h = refl
if_one false h = absurd (omega arith)

pub same_sym : (a b : ℕ) → (a == b) ≡ (b == a)
same_sym a b = grind (arith, nat_tests)
