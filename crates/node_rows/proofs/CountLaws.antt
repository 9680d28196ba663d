-- Sums over lists of numbers of the same counts are the same.

use Rattle.std.proofs.Common.{◌≡◌, ℕ, ◌+◌, ◌<◌, ℤ, ◌+ℤ◌, true, cond, List, [], ◌∷◌, refl, sym, ap, ◌∙◌, inl, inr, arith}
use Rattle.std.specs.Prelude.{nat_eq, count_by}
use Rattle.std.proofs.lemmas.Bool.{cases_Bool, eqb-true, eq-eqb}
use Rattle.std.proofs.lemmas.Int.{ints}
use Rattle.std.proofs.lemmas.List.Sums.{sum_by-cons}
use Rattle.timing_defs.specs.Wires.{sum_of}

pub count_cons : (n x : ℕ) (xs : List ℕ) → count_by (nat_eq n) (x ∷ xs) ≡ cond (nat_eq n x) 1 0 + count_by (nat_eq n) xs
count_cons n x xs = sum_by-cons (λ y. cond (nat_eq n y) 1 0) x xs

-- a list without the first place of a number
taken_out : ℕ → List ℕ → List ℕ
taken_out n [] = []
taken_out n (x ∷ xs) = cond (nat_eq n x) xs (x ∷ taken_out n xs)

self_eq : (n : ℕ) → nat_eq n n ≡ true
self_eq n = eq-eqb n n refl

swapped : (a b c : ℤ) → a +ℤ (b +ℤ c) ≡ b +ℤ (a +ℤ c)
swapped a b c = omega (arith, ints)

sum_out : (g : ℕ → ℤ) (n : ℕ) (xs : List ℕ) → 0 < count_by (nat_eq n) xs → sum_of g xs ≡ g n +ℤ sum_of g (taken_out n xs)
unfolding taken_out
sum_out g n [] low = absurd (omega arith)
sum_out g n (x ∷ xs) low = elim (cases_Bool (nat_eq n x)) [
  | inl h ↦ rw h (ap (λ m. g m +ℤ sum_of g xs) (sym (eqb-true n x h)))
  | inr h ↦
      let less : cond {A = ℕ} (nat_eq n x) 1 0 ≡ 0 = rw h refl in
      let parts = count_cons n x xs in
      rw h (ap (λ z. g x +ℤ z) (sum_out g n xs (omega arith)) ∙ swapped (g x) (g n) (sum_of g (taken_out n xs)))
]

count_out : (m n : ℕ) (xs : List ℕ) → 0 < count_by (nat_eq n) xs → count_by (nat_eq m) xs ≡ cond (nat_eq m n) 1 0 + count_by (nat_eq m) (taken_out n xs)
unfolding taken_out
count_out m n [] low = absurd (omega arith)
count_out m n (x ∷ xs) low = elim (cases_Bool (nat_eq n x)) [
  | inl h ↦ rw h (count_cons m x xs ∙ ap (λ y. cond (nat_eq m y) 1 0 + count_by (nat_eq m) xs) (sym (eqb-true n x h)))
  | inr h ↦
      let less : cond {A = ℕ} (nat_eq n x) 1 0 ≡ 0 = rw h refl in
      let parts = count_cons n x xs in
      let rest = count_out m n xs (omega arith) in
      let here = count_cons m x xs in
      let there = count_cons m x (taken_out n xs) in
      rw h (omega arith)
]

pub same_sums : (g : ℕ → ℤ) (xs ys : List ℕ) → ((n : ℕ) → count_by (nat_eq n) xs ≡ count_by (nat_eq n) ys) → sum_of g xs ≡ sum_of g ys
same_sums g [] [] same = refl
same_sums g [] (y ∷ ys) same =
    let e = same y in
    let parts = count_cons y y ys in
    let one : cond {A = ℕ} (nat_eq y y) 1 0 ≡ 1 = rw (self_eq y) refl in
    absurd (omega arith)
same_sums g (x ∷ xs) ys same =
    let e = same x in
    let parts = count_cons x x xs in
    let one : cond {A = ℕ} (nat_eq x x) 1 0 ≡ 1 = rw (self_eq x) refl in
    let some : 0 < count_by (nat_eq x) ys = omega arith in
    ap (λ z. g x +ℤ z)
    (same_sums g xs (taken_out x ys) (λ n.
    let here = count_cons n x xs in
    let there = count_out n x ys some in
    let both = same n in
    omega arith))
    ∙ sym (sum_out g x ys some)
