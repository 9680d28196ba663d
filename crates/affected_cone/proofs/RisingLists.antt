-- Lists of rising numbers.

use Rattle.std.proofs.Common.{◌≡◌, ℕ, zero, suc, ◌+◌, ◌<◌, ◌≤◌, Bool, true, false, cond, List, [], ◌∷◌, ◌++◌, filter, append-nil, refl, sym, ap, subst, ◌∙◌, inl, inr, arith}
use Rattle.std.specs.Prelude.{nat_eq, count_by, Contains, if◌then◌else◌, ◌||◌}
use Rattle.std.specs.List.{list_any, range_with_len}
use Rattle.std.proofs.lemmas.Bool.{cases_Bool, eqb-true, ne_eqb}
use Rattle.std.proofs.lemmas.List.Elements.{All-contains, All-filter, All-contains_itself}
use Rattle.std.proofs.lemmas.List.FromFn.{length-range_with_len, get_or-range_with_len}
use Rattle.affected_cone.proofs.SumLaws.{count_cons}
use Rattle.affected_cone.proofs.MapLaws.{first_in, later_in}

-- each number is below those after it
abbrev pub Rises : List ℕ → Type 0
Rises [] = Unit {0}
Rises (x ∷ xs) = ((y : ℕ) → Contains xs y → x < y) × Rises xs

kept : (p : ℕ → Bool) (xs : List ℕ) (x : ℕ) → Contains (filter p xs) x → Contains xs x
kept p xs x c = All-contains (Contains xs) (filter p xs) x (All-filter p (Contains xs) xs (All-contains_itself xs)) c

from_start : (a m x : ℕ) → Contains (range_with_len a m) x → a ≤ x
from_start a m x c =
    let low = c.1 in
    let long = length-range_with_len a m in
    let k : c.0 < m = omega arith in
    let at = get_or-range_with_len a m c.0 x k in
    let same : a + c.0 ≡ x = sym at ∙ c.2 in
    omega arith

pub rises : (p : ℕ → Bool) (a m : ℕ) → Rises (filter p (range_with_len a m))
rises p a zero = tt
rises p a (suc m) = elim (cases_Bool (p a)) [
  | inl h ↦ rw h (λ y c. (let low = from_start (a + 1) m y (kept p (range_with_len (a + 1) m) y c) in omega arith), rises p (a + 1) m)
  | inr h ↦ rw h (rises p (a + 1) m)
]

none_any : (n : ℕ) (xs : List ℕ) → ((y : ℕ) → Contains xs y → n < y) → list_any (nat_eq n) xs ≡ false
none_any n [] over = refl
none_any n (x ∷ xs) over =
    let low = over x (first_in x xs) in
    let no : nat_eq n x ≡ false = ne_eqb n x (λ e. omega (arith, e)) in
    rw no (none_any n xs (λ y c. over y (later_in x xs y c)))

-- a number stands there once or not at all
pub once : (n : ℕ) (xs : List ℕ) → Rises xs → count_by (nat_eq n) xs ≡ (if list_any (nat_eq n) xs then 1 else 0)
once n [] r = refl
once n (x ∷ xs) r = elim (cases_Bool (nat_eq n x)) [
  | inl h ↦
      let same : n ≡ x = eqb-true n x h in
      let others : list_any (nat_eq n) xs ≡ false = none_any n xs (λ y c. (let low = r.0 y c in omega arith)) in
      count_cons n x xs ∙ ap (λ b. cond {A = ℕ} b 1 0 + count_by (nat_eq n) xs) h
      ∙ ap (λ m. 1 + m) (once n xs r.1 ∙ ap (λ b. if b then 1 else 0) others)
      ∙ (let e : 1 + 0 ≡ 1 = omega arith in e)
      ∙ sym (ap (λ b. if b || list_any (nat_eq n) xs then 1 else 0) h)
  | inr h ↦
      count_cons n x xs ∙ ap (λ b. cond {A = ℕ} b 1 0 + count_by (nat_eq n) xs) h
      ∙ (let e : 0 + count_by (nat_eq n) xs ≡ count_by (nat_eq n) xs = omega arith in e) ∙ once n xs r.1
      ∙ sym (ap (λ b. if b || list_any (nat_eq n) xs then 1 else 0) h)
]

-- the numbers that pass, with one more
one_range : (p : ℕ → Bool) (a m : ℕ) → a ≡ m → filter p (a ∷ []) ≡ cond (p m) (m ∷ []) []
one_range p a m e = subst (λ (k : ℕ). filter p (a ∷ []) ≡ cond (p k) (k ∷ []) []) e (plain (p a) refl)
  where
    plain : (b : Bool) → p a ≡ b → filter p (a ∷ []) ≡ cond (p a) (a ∷ []) []
    plain true h = rw h refl
    plain false h = rw h refl

range_more : (p : ℕ → Bool) (a n : ℕ) → filter p (range_with_len a (suc n)) ≡ filter p (range_with_len a n) ++ cond (p (a + n)) ((a + n) ∷ []) []
range_more p a zero = one_range p a (a + 0) (omega arith)
range_more p a (suc n) =
    let again = range_more p (a + 1) n in
    let sum : a + 1 + n ≡ a + suc n = omega arith in
    let rest : filter p (range_with_len (a + 1) (suc n)) ≡ filter p (range_with_len (a + 1) n) ++ cond (p (a + suc n)) ((a + suc n) ∷ []) [] =
    subst (λ (k : ℕ). filter p (range_with_len (a + 1) (suc n)) ≡ filter p (range_with_len (a + 1) n) ++ cond (p k) (k ∷ []) []) sum again in
    elim (cases_Bool (p a)) [
      | inl h ↦ rw h (ap (λ xs. a ∷ xs) rest)
      | inr h ↦ rw h rest
    ]

pub passing_more : (p : ℕ → Bool) (n : ℕ) (xs ys : List ℕ) → xs ≡ filter p (range_with_len 0 n) → p n ≡ true → ys ≡ xs ++ n ∷ [] → ys ≡ filter p (range_with_len 0 (n + 1))
passing_more p n xs ys e h f =
    let one : n + 1 ≡ suc n = omega arith in
    let same : 0 + n ≡ n = omega arith in
    f ∙ ap (λ zs. zs ++ n ∷ []) e
    ∙ sym (ap (λ k. filter p (range_with_len 0 k)) one ∙ range_more p 0 n ∙ ap (λ k. filter p (range_with_len 0 n) ++ cond (p k) (k ∷ []) []) same
    ∙ ap (λ b. filter p (range_with_len 0 n) ++ cond b (n ∷ []) []) h)

pub passing_same : (p : ℕ → Bool) (n : ℕ) (xs : List ℕ) → xs ≡ filter p (range_with_len 0 n) → p n ≡ false → xs ≡ filter p (range_with_len 0 (n + 1))
passing_same p n xs e h =
    let one : n + 1 ≡ suc n = omega arith in
    let same : 0 + n ≡ n = omega arith in
    e ∙ sym (append-nil (filter p (range_with_len 0 n)))
    ∙ sym (ap (λ k. filter p (range_with_len 0 k)) one ∙ range_more p 0 n ∙ ap (λ k. filter p (range_with_len 0 n) ++ cond (p k) (k ∷ []) []) same
    ∙ ap (λ b. filter p (range_with_len 0 n) ++ cond b (n ∷ []) []) h)
