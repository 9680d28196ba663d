-- Ranks are in the order of what they are counted by.

use Rattle.std.proofs.Common.{◌≡◌, ℕ, zero, suc, ◌+◌, ◌<◌, ◌≤◌, Bool, true, false, List, [], ◌∷◌, ◌++◌, map, length, get_or, refl, sym, ap, ◌∙◌, arith}
use Rattle.std.specs.Prelude.{◌==◌, cond, count_by, ⊤}
use Rattle.std.specs.List.{range_with_len}
use Rattle.std.specs.Cmp.{IsTotalOrder}
use Rattle.std.specs.Ordering.{nat_cmp, ordering_then, ordering_reverse, is_lt}
use Rattle.std.specs.declared.cmp.Ordering.{Ordering}
use Rattle.std.specs.declared.cmp.Ordering.TheVariants.{Less, Equal, Greater}
use Rattle.std.specs.Cmp.Lexicographic.{slice_cmp}
use Rattle.std.proofs.lemmas.Bool.{false≢true, lt-ltb}
use Rattle.std.proofs.lemmas.Cmp.{ranked, tied_itself, nat_cmp_total}
use Rattle.std.proofs.lemmas.List.Sums.{sum_by-cons}
use Rattle.std.proofs.lemmas.List.FromFn.{length-range_with_len, get_or-range_with_len}
use Rattle.path_search.specs.Ranks.{rank_by}

step_le : (a b : Bool) (m n : ℕ) → (a ≡ true → b ≡ true) → m ≤ n → cond a 1 0 + m ≤ cond b 1 0 + n
step_le true true m n h l = omega arith
step_le true false m n h l = absurd (false≢true (h refl))
step_le false true m n h l = omega arith
step_le false false m n h l = omega arith

step_lt : (a b : Bool) (m n : ℕ) → (a ≡ true → b ≡ true) → m < n → cond a 1 0 + m < cond b 1 0 + n
step_lt true true m n h l = omega arith
step_lt true false m n h l = absurd (false≢true (h refl))
step_lt false true m n h l = omega arith
step_lt false false m n h l = omega arith

step_first : (a b : Bool) (m n : ℕ) → a ≡ false → b ≡ true → m ≤ n → cond a 1 0 + m < cond b 1 0 + n
step_first true b m n e f l = absurd (false≢true (sym e))
step_first false true m n e f l = omega arith
step_first false false m n e f l = absurd (false≢true f)

counted : {X : Type 0} (p : X → Bool) (x : X) (xs : List X) → count_by p (x ∷ xs) ≡ cond (p x) 1 0 + count_by p xs
counted p x xs = sum_by-cons (λ y. cond (p y) 1 0) x xs

-- what passes one test passes the other
module _ {X : Type 0} (p q : X → Bool) (h : (x : X) → p x ≡ true → q x ≡ true) where
  count_up : (xs : List X) → count_by p xs ≤ count_by q xs
  count_up [] = omega arith
  count_up (x ∷ xs) =
      let here = counted p x xs in
      let there = counted q x xs in
      let step = step_le (p x) (q x) (count_by p xs) (count_by q xs) (h x) (count_up xs) in
      omega arith

  count_more : (xs : List X) (k : ℕ) (d : X) → k < length xs → p (get_or xs k d) ≡ false → q (get_or xs k d) ≡ true → count_by p xs < count_by q xs
  count_more [] k d low e f = absurd (omega (arith, low))
  count_more (x ∷ xs) zero d low e f =
      let here = counted p x xs in
      let there = counted q x xs in
      let step = step_first (p x) (q x) (count_by p xs) (count_by q xs) e f (count_up xs) in
      omega arith
  count_more (x ∷ xs) (suc k) d low e f =
      let here = counted p x xs in
      let there = counted q x xs in
      let step = step_lt (p x) (q x) (count_by p xs) (count_by q xs) (h x) (count_more xs k d (omega (arith, low)) e f) in
      omega arith

lt_less : (o : Ordering) → is_lt o ≡ true → o ≡ Less
lt_less Less e = refl
lt_less Equal e = absurd (false≢true e)
lt_less Greater e = absurd (false≢true e)

pub less_told : (x y : ℕ) → x < y → nat_cmp x y ≡ Less
less_told x y low = ap (λ (b : Bool). cond b Less (cond (x == y) Equal Greater)) (lt-ltb x y low)

pub greater_told : (x y : ℕ) → y < x → nat_cmp x y ≡ Greater
greater_told x y low = nat_cmp_total.antisymm x y ∙ ap ordering_reverse (less_told y x low)

pub equal_told : (x y : ℕ) → nat_cmp x y ≡ Equal → x ≡ y
equal_told x y e = ranked x y Equal (sym e)

module _ (cmp : ℕ → ℕ → Ordering) (total : IsTotalOrder cmp) (bound : ℕ) where
  rises : (a b : ℕ) → a < bound → cmp a b ≡ Less → rank_by cmp bound a < rank_by cmp bound b
  rises a b low less =
      let at : get_or (range_with_len 0 bound) a 0 ≡ a = get_or-range_with_len 0 bound a 0 low ∙ (let e : 0 + a ≡ a = omega arith in e) in
      count_more (λ m. is_lt (cmp m a)) (λ m. is_lt (cmp m b)) (λ m e. ap is_lt (total.trans m a b (lt_less (cmp m a) e) less))
      (range_with_len 0 bound) a 0 (let l = length-range_with_len 0 bound in omega arith)
      (ap (λ m. is_lt (cmp m a)) at ∙ ap is_lt (tied_itself total a))
      (ap (λ m. is_lt (cmp m b)) at ∙ ap is_lt less)

  module _ (tied : (a b : ℕ) → cmp a b ≡ Equal → a ≡ b) where
    agrees_by : (a b : ℕ) → a < bound → b < bound → (o : Ordering) → cmp a b ≡ o → nat_cmp (rank_by cmp bound a) (rank_by cmp bound b) ≡ o
    agrees_by a b low high Less e = less_told (rank_by cmp bound a) (rank_by cmp bound b) (rises a b low e)
    agrees_by a b low high Equal e =
        ap (λ n. nat_cmp (rank_by cmp bound n) (rank_by cmp bound b)) (tied a b e) ∙ tied_itself nat_cmp_total (rank_by cmp bound b)
    agrees_by a b low high Greater e =
        greater_told (rank_by cmp bound a) (rank_by cmp bound b) (rises b a high (total.antisymm b a ∙ ap ordering_reverse e))

    pub agrees : (a b : ℕ) → a < bound → b < bound → nat_cmp (rank_by cmp bound a) (rank_by cmp bound b) ≡ cmp a b
    agrees a b low high = agrees_by a b low high (cmp a b) refl

    pub ranks_apart : (a b : ℕ) → a < bound → b < bound → rank_by cmp bound a ≡ rank_by cmp bound b → a ≡ b
    ranks_apart a b low high e =
        tied a b (sym (agrees a b low high) ∙ ap (λ n. nat_cmp n (rank_by cmp bound b)) e ∙ tied_itself nat_cmp_total (rank_by cmp bound b))

-- a claim of each item of a list
abbrev pub Each : {X : Type 0} → (X → Type 0) → List X → Type 0
Each P [] = ⊤
Each P (x ∷ xs) = P x × Each P xs

pub each_more : {X : Type 0} (P Q : X → Type 0) → ((x : X) → P x → Q x) → (xs : List X) → Each P xs → Each Q xs
each_more P Q f [] e = tt
each_more P Q f (x ∷ xs) e = (f x e.0, each_more P Q f xs e.1)

pub each_append : {X : Type 0} (P : X → Type 0) (xs ys : List X) → Each P xs → Each P ys → Each P (xs ++ ys)
each_append P [] ys a b = b
each_append P (x ∷ xs) ys a b = (a.0, each_append P xs ys a.1 b)

-- lists of what is ordered alike are ordered alike
pub lists_agree : {X Y Z : Type 0} (R : Y → Y → Ordering) (S : Z → Z → Ordering) (f : X → Y) (g : X → Z) (P : X → Type 0)
    → ((x y : X) → P x → P y → R (f x) (f y) ≡ S (g x) (g y))
    → (xs ys : List X) → Each P xs → Each P ys → slice_cmp R (map f xs) (map f ys) ≡ slice_cmp S (map g xs) (map g ys)
lists_agree R S f g P same [] [] a b = refl
lists_agree R S f g P same [] (y ∷ ys) a b = refl
lists_agree R S f g P same (x ∷ xs) [] a b = refl
lists_agree R S f g P same (x ∷ xs) (y ∷ ys) a b =
    let rest = lists_agree R S f g P same xs ys a.1 b.1 in
    λ k. ordering_then (same x y a.0 b.0 k) (rest k)
