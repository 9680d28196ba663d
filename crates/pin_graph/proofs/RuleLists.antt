-- What lists of numbers give in tables that read alike.

use Rattle.std.proofs.Common.{◌≡◌, ◌⊎◌, ℕ, zero, suc, ◌+◌, ◌<◌, Bool, true, false, List, [], ◌∷◌, ◌++◌, map, take, length, get_or, refl, sym, ap, subst, ◌∙◌, inl, inr, arith}
use Rattle.std.specs.Prelude.{nat_eq, max, replicate, slice_index, slice_set, All, Contains}
use Rattle.std.specs.List.{list_any, range_with_len}
use Rattle.std.proofs.lemmas.Bool.{cases_lt, eq-eqb, eqb-true, false≢true}
use Rattle.std.proofs.lemmas.List.{get_or-set_other, length-append, length-replicate, map-append, take_more}
use Rattle.std.proofs.lemmas.List.Folds.{list_any_at}
use Rattle.std.proofs.lemmas.List.FromFn.{length-range_with_len}
use Rattle.timing_defs.proofs.ListLemmas.{bool_iff}
use Rattle.levelizer.specs.Levels.{greatest}
use Rattle.pin_graph.specs.PinValues.{level_over, is_set, IsLonger}
use Rattle.pin_graph.proofs.LevelBound.{level_low}
use Rattle.timing_defs.proofs.Members.{first_in, later_in, any_in, any_back, number_in}

-- what tables give that read alike at the numbers of a list
pub levels_alike : (t u xs : List ℕ) → ((x : ℕ) → Contains xs x → slice_index t x ≡ slice_index u x) → level_over t xs ≡ level_over u xs
levels_alike t u [] same = refl
levels_alike t u (x ∷ xs) same = let rest = levels_alike t u xs (λ y c. same y (later_in x xs y c)) in rw (same x (first_in x xs), rest) refl

pub any_alike : (t u xs : List ℕ) → ((x : ℕ) → Contains xs x → slice_index t x ≡ slice_index u x) → list_any (is_set t) xs ≡ list_any (is_set u) xs
any_alike t u [] same = refl
any_alike t u (x ∷ xs) same = let rest = any_alike t u xs (λ y c. same y (later_in x xs y c)) in rw (same x (first_in x xs), rest) refl

-- a write beside the numbers of a list
pub written_beside : (t : List ℕ) (x v : ℕ) (xs : List ℕ) → list_any (nat_eq x) xs ≡ false → (y : ℕ) → Contains xs y → slice_index (slice_set t x v) y ≡ slice_index t y
written_beside t x v xs none y c = get_or-set_other t x y v 0 (λ e. false≢true (sym none ∙ any_in (nat_eq x) xs y c (eq-eqb x y (sym e))))

-- lists with the same members
pub any_same : (p : ℕ → Bool) (xs ys : List ℕ) → ((q : ℕ) → list_any (nat_eq q) xs ≡ list_any (nat_eq q) ys) → list_any p xs ≡ list_any p ys
any_same p xs ys same = bool_iff (list_any p xs) (list_any p ys) (to xs ys same) (to ys xs (λ q. sym (same q)))
  where
    to : (us vs : List ℕ) → ((q : ℕ) → list_any (nat_eq q) us ≡ list_any (nat_eq q) vs) → list_any p us ≡ true → list_any p vs ≡ true
    to us vs alike h =
        let r = any_back p us h in
        let there : list_any (nat_eq r.item) us ≡ true = any_in (nat_eq r.item) us r.item r.within (eq-eqb r.item r.item refl) in
        let s = any_back (nat_eq r.item) vs (sym (alike r.item) ∙ there) in
        any_in p vs s.item s.within (subst (λ (k : ℕ). p k ≡ true) (eqb-true r.item s.item s.passes) r.passes)

pub all_from : (n : ℕ) (xs : List ℕ) → ((q : ℕ) → list_any (nat_eq q) xs ≡ true → q < n) → All (λ a. a < n) xs
all_from n xs each k d low = each (get_or xs k d) (list_any_at (nat_eq (get_or xs k d)) xs k d low (eq-eqb (get_or xs k d) (get_or xs k d) refl))

pub nothing_in : {X : Type 0} (xs : List X) → ((x : X) → Contains xs x → ⊥) → xs ≡ []
nothing_in [] none = refl
nothing_in (x ∷ xs) none = absurd (none x (first_in x xs))

max_is : (a b : ℕ) → (max a b ≡ a) ⊎ (max a b ≡ b)
max_is a b = elim (cases_lt a b) [ inl l ↦ inr (omega arith) | inr h ↦ inl (omega arith) ]

-- one number more
pub greatest_last : (xs : List ℕ) (x : ℕ) → greatest (xs ++ x ∷ []) ≡ max (greatest xs) x
greatest_last [] x = omega arith
greatest_last (y ∷ xs) x = let rest = greatest_last xs x in omega (arith, rest)

pub level_more : (t xs : List ℕ) (i d : ℕ) → i < length xs → level_over t (take (i + 1) xs) ≡ max (level_over t (take i xs)) (slice_index t (get_or xs i d) + 1)
level_more t xs i d low =
    ap (level_over t) (take_more xs i d low) ∙ ap greatest (map-append (λ from. slice_index t from + 1) (take i xs) (get_or xs i d ∷ []))
    ∙ greatest_last (map (λ from. slice_index t from + 1) (take i xs)) (slice_index t (get_or xs i d) + 1)

-- a level above 0 is one more than that of a number in the list
top_in : (t xs : List ℕ) (k : ℕ) → level_over t xs ≡ suc k → (y : ℕ) × (Contains xs y × (slice_index t y ≡ k))
top_in t [] k e = absurd (omega arith)
top_in t (x ∷ xs) k e = elim (max_is (slice_index t x + 1) (level_over t xs)) [
  | inl here ↦ let h = sym here ∙ e in (x, (first_in x xs, omega arith))
  | inr there ↦ let r = top_in t xs k (sym there ∙ e) in (r.0, (later_in x xs r.0 r.1.0, r.1.1))
]

-- levels are below the number of levels
pub level_below : (n : ℕ) (t : List ℕ) (befores : ℕ → List ℕ) → ((a : ℕ) → a < n → slice_index t a ≡ level_over t (befores a))
    → ((a : ℕ) → a < n → (x : ℕ) → Contains (befores a) x → x < n) → (a : ℕ) → a < n → slice_index t a < n
level_below n t befores each within a low =
    subst (λ (k : ℕ). slice_index t a < k) (length-range_with_len 0 n)
    (level_low (range_with_len 0 n) (λ x. x < n) (λ x l. number_in n x l) (slice_index t)
    (λ x k l e. let r = top_in t (befores x) k (sym (each x l) ∙ e) in (r.0, (within x l r.0 r.1.0, r.1.1))) a low)

-- a table with zeros at its end
pub longer_with : (n k : ℕ) (base : List ℕ) → length base + k ≡ n → IsLonger n base (base ++ replicate k 0)
longer_with n k base e = record {
  count = let a = length-append base (replicate k 0) in let b = length-replicate {A = ℕ} k 0 in omega (arith, a, b, e);
  same = λ at. by at;
}
  where
    zeros : (m at : ℕ) → slice_index (replicate m 0) at ≡ 0
    zeros zero at = refl
    zeros (suc m) zero = refl
    zeros (suc m) (suc at) = zeros m at

    joined : (xs : List ℕ) (at : ℕ) → slice_index (xs ++ replicate k 0) at ≡ slice_index xs at
    joined [] at = zeros k at
    joined (x ∷ xs) zero = refl
    joined (x ∷ xs) (suc at) = joined xs at

    by : (at : ℕ) → slice_index (base ++ replicate k 0) at ≡ slice_index base at
    by at = joined base at
