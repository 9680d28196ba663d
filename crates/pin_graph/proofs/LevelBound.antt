-- Levels are no more than the nodes: below each level stands a node of every lower one.

use Rattle.std.proofs.Common.{◌≡◌, ℕ, zero, suc, ◌+◌, ◌<◌, ◌≤◌, Bool, true, false, List, [], ◌∷◌, map, length, cond, refl, sym, ap, subst, ◌∙◌, inl, inr, arith, lt-ltb, le-ltb}
use Rattle.std.specs.Prelude.{Contains, nat_eq, nat_lt, count_by}
use Rattle.std.proofs.lemmas.Bool.{cases_lt, cases_eq, eq-eqb, ne_eqb}
use Rattle.std.proofs.lemmas.List.{length-map}
use Rattle.std.proofs.lemmas.List.Sums.{sum_by-cons, count_by-le-length}

counted : {X : Type 0} (test : X → Bool) (x : X) (xs : List X) → count_by test (x ∷ xs) ≡ cond (test x) 1 0 + count_by test xs
counted test x xs = sum_by-cons (λ y. cond (test y) 1 0) x xs

one_more : (x k : ℕ) → cond {A = ℕ} (nat_lt x (suc k)) 1 0 ≡ cond {A = ℕ} (nat_lt x k) 1 0 + cond {A = ℕ} (nat_eq k x) 1 0
one_more x k = elim (cases_lt x k) [
  | inl low ↦
      let a : nat_lt x (suc k) ≡ true = lt-ltb x (suc k) (omega (arith, low)) in
      let b : nat_lt x k ≡ true = lt-ltb x k low in
      let c : nat_eq k x ≡ false = ne_eqb k x (λ e. omega (arith, low, e)) in
      rw (a, b, c) refl
  | inr high ↦ elim (cases_eq k x) [
    | inl same ↦
        let a : nat_lt x (suc k) ≡ true = lt-ltb x (suc k) (omega (arith, same)) in
        let b : nat_lt x k ≡ false = le-ltb x k high in
        let c : nat_eq k x ≡ true = eq-eqb k x same in
        rw (a, b, c) refl
    | inr other ↦
        let a : nat_lt x (suc k) ≡ false = le-ltb x (suc k) (above high other) in
        let b : nat_lt x k ≡ false = le-ltb x k high in
        let c : nat_eq k x ≡ false = ne_eqb k x other in
        rw (a, b, c) refl
  ]
]
  where
    above : k ≤ x → (k ≡ x → ⊥) → suc k ≤ x
    above high other = elim (cases_lt k x) [ inl l ↦ omega (arith, l) | inr m ↦ absurd (other (omega (arith, high, m))) ]

more_below : (k : ℕ) (xs : List ℕ) → count_by (λ x. nat_lt x (suc k)) xs ≡ count_by (λ x. nat_lt x k) xs + count_by (nat_eq k) xs
more_below k [] = refl
more_below k (x ∷ xs) =
    let a = counted (λ y. nat_lt y (suc k)) x xs in
    let b = counted (λ y. nat_lt y k) x xs in
    let c = counted (nat_eq k) x xs in
    let one = one_more x k in
    let rest = more_below k xs in
    omega (arith, a, b, c, one, rest)

pub in_counted : (k : ℕ) (xs : List ℕ) → Contains xs k → 1 ≤ count_by (nat_eq k) xs
in_counted k [] (i, low, is) = absurd (omega (arith, low))
in_counted k (x ∷ xs) (zero, low, is) =
    let a = counted (nat_eq k) x xs in
    let e : cond {A = ℕ} (nat_eq k x) 1 0 ≡ 1 = rw (eq-eqb k x (sym is)) refl in
    omega (arith, a, e)
in_counted k (x ∷ xs) (suc i, low, is) =
    let a = counted (nat_eq k) x xs in
    let rest = in_counted k xs (i, omega (arith, low), is) in
    omega (arith, a, rest)

many_below : (k : ℕ) (xs : List ℕ) → ((j : ℕ) → j < k → Contains xs j) → k ≤ count_by (λ x. nat_lt x k) xs
many_below zero xs each = omega arith
many_below (suc k) xs each =
    let had = many_below k xs (λ j low. each j (omega (arith, low))) in
    let one = in_counted k xs (each k (omega arith)) in
    let more = more_below k xs in
    omega (arith, had, one, more)

-- a list that has every number below one is as long
pub as_long : (k : ℕ) (xs : List ℕ) → ((j : ℕ) → j < k → Contains xs j) → k ≤ length xs
as_long k xs each = let a = many_below k xs each in let b = count_by-le-length (λ x. nat_lt x k) xs in omega (arith, a, b)

in_map : {X : Type 0} (f : X → ℕ) (xs : List X) (x : X) → Contains xs x → Contains (map f xs) (f x)
in_map f [] x (i, low, is) = absurd (omega (arith, low))
in_map f (y ∷ ys) x (zero, low, is) = (0, omega arith, ap f is)
in_map f (y ∷ ys) x (suc i, low, is) = let m = in_map f ys x (i, omega (arith, low), is) in let l = m.1 in (suc m.0, omega (arith, l), m.2)

-- where a level above 0 has an item of the next lower one, levels are below the number of items
module _ {X : Type 0} (items : List X) (Stands : X → Type 0) (listed : (x : X) → Stands x → Contains items x) (level : X → ℕ)
    (lower : (x : X) (k : ℕ) → Stands x → level x ≡ suc k → (y : X) × (Stands y × (level y ≡ k))) where
  at_level : (k : ℕ) (x : X) → Stands x → level x ≡ k → (j : ℕ) → j ≤ k → (y : X) × (Stands y × (level y ≡ j))
  at_level zero x s e j low = (x, (s, same_level e low))
    where
      same_level : level x ≡ 0 → j ≤ 0 → level x ≡ j
      same_level f l = omega (arith, f, l)
  at_level (suc k) x s e j low = elim (cases_eq j (suc k)) [
    | inl same ↦ (x, (s, e ∙ sym same))
    | inr other ↦ let y = lower x k s e in at_level k y.0 y.1.0 y.1.1 j (below other)
  ]
    where
      below : (j ≡ suc k → ⊥) → j ≤ k
      below other = elim (cases_lt k j) [ inl l ↦ absurd (other (omega (arith, l, low))) | inr m ↦ m ]

  pub level_low : (x : X) → Stands x → level x < length items
  level_low x s =
      let long = as_long (suc (level x)) (map level items) each in
      let same = length-map items level in
      omega (arith, long, same)
    where
      each : (j : ℕ) → j < suc (level x) → Contains (map level items) j
      each j low =
          let y = at_level (level x) x s refl j (omega (arith, low)) in
          let c = in_map level items y.0 (listed y.0 y.1.0) in
          subst (λ (k : ℕ). Contains (map level items) k) y.1.1 c
