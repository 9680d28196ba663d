-- Beginnings of the history, the entries of one seat, numbers that never fall, and counts over views.
use Rattle.std.proofs.Common.{◌≡◌, ◌≢◌, ℕ, zero, suc, ◌+◌, ◌≤◌, ◌==◌, cond, List, [], ◌∷◌, ◌++◌, set, sym, refl, ap, ◌∙◌, arith, append_assoc, eq-eqb, ne_eqb}
use mathlib.Core.Logic.{dite}
use mathlib.Core.Option.{some, some-injective, some-ne-none}
use mathlib.Core.List.{IsPrefix}
use native.Mathlib.Decide.{ℕ_discrete}
use lib.ListN.{get_elem?}
use Rattle.std.specs.List.{All, count_by, sum_by}
use Rattle.std.proofs.lemmas.List.{append-nil}
use Rattle.std.proofs.lemmas.List.Elements.{All-head, All-tail, All-cons, All-nil, filter-append}
use Rattle.std.proofs.lemmas.List.Sums.{sum_by-cons}
use Rattle.version_board.specs.History.{own, Rising}

module _ {X : Type 0} where
  pub prefix_self : (xs : List X) → IsPrefix xs xs
  prefix_self xs = ([], append-nil xs)

  pub prefix_longer : (xs ys zs : List X) → IsPrefix xs ys → IsPrefix xs (ys ++ zs)
  prefix_longer xs ys zs p = (p.0 ++ zs, sym (append_assoc xs p.0 zs) ∙ ap (λ w. w ++ zs) p.1)

  -- one more at the end
  pub last_same : (xs : List X) (a b : X) → xs ++ a ∷ [] ≡ xs ++ b ∷ [] → a ≡ b
  last_same [] a b e = cc
  last_same (x ∷ xs) a b e = last_same xs a b cc

module _ {X : Type 0} (f : X → ℕ) where
  -- the part of one, and the parts of two
  pub sum_one : (xs : List X) (i : ℕ) (x : X) → get_elem? xs i ≡ some x → f x ≤ sum_by f xs
  sum_one [] i x e = absurd (some-ne-none x (sym e))
  sum_one (y ∷ ys) zero x e = let same : f y ≡ f x = ap f (some-injective y x e) in let s = sum_by-cons f y ys in omega arith
  sum_one (y ∷ ys) (suc i) x e = let h = sum_one ys i x e in let s = sum_by-cons f y ys in omega arith

  pub sum_two : (xs : List X) (i j : ℕ) (x z : X) → i ≢ j → get_elem? xs i ≡ some x → get_elem? xs j ≡ some z → f x + f z ≤ sum_by f xs
  sum_two [] i j x z ne e d = absurd (some-ne-none x (sym e))
  sum_two (y ∷ ys) zero zero x z ne e d = absurd (ne refl)
  sum_two (y ∷ ys) zero (suc j) x z ne e d = let same : f y ≡ f x = ap f (some-injective y x e) in let h = sum_one ys j z d in let s = sum_by-cons f y ys in omega arith
  sum_two (y ∷ ys) (suc i) zero x z ne e d = let same : f y ≡ f z = ap f (some-injective y z d) in let h = sum_one ys i x e in let s = sum_by-cons f y ys in omega arith
  sum_two (y ∷ ys) (suc i) (suc j) x z ne e d = let h = sum_two ys i j x z (λ same. ne (ap suc same)) e d in let s = sum_by-cons f y ys in omega arith

  pub sum_set : (xs : List X) (i : ℕ) (x w : X) → get_elem? xs i ≡ some x → sum_by f (set xs i w) + f x ≡ sum_by f xs + f w
  sum_set [] i x w e = absurd (some-ne-none x (sym e))
  sum_set (y ∷ ys) zero x w e = let same : f y ≡ f x = ap f (some-injective y x e) in let s = sum_by-cons f y ys in let t = sum_by-cons f w ys in omega arith
  sum_set (y ∷ ys) (suc i) x w e = let h = sum_set ys i x w e in let s = sum_by-cons f y ys in let t = sum_by-cons f y (set ys i w) in omega arith

module _ {X : Type 0} (p : X → ℕ) (n : ℕ) where
  -- none has the number n where none is counted
  pub none_has : (xs : List X) → count_by (λ x. p x == n) xs ≡ 0 → All (λ x. p x ≢ n) xs
  none_has [] e = All-nil (λ y. p y ≢ n)
  none_has (x ∷ xs) e = let s = sum_by-cons (λ y. cond (p y == n) 1 0) x xs in dite (ℕ_discrete (p x) n)
      (λ same. let t = ap (λ b. let one : ℕ = cond b 1 0 in one) (eq-eqb (p x) n same) in absurd (omega arith))
      (λ ne. All-cons (λ y. p y ≢ n) x xs ne (none_has xs (omega arith)))

module _ {E : Type 0} (by : E → ℕ) where
  pub own_more : (n : ℕ) (log : List E) (e : E) → by e ≡ n → own by n (log ++ e ∷ []) ≡ own by n log ++ e ∷ []
  own_more n log e same = filter-append (λ x. by x == n) log (e ∷ []) ∙ ap (λ b. own by n log ++ cond b (e ∷ []) []) (eq-eqb (by e) n same)

  pub own_same : (n : ℕ) (log : List E) (e : E) → by e ≢ n → own by n (log ++ e ∷ []) ≡ own by n log
  own_same n log e ne = filter-append (λ x. by x == n) log (e ∷ []) ∙ (ap (λ b. own by n log ++ cond b (e ∷ []) []) (ne_eqb (by e) n ne) ∙ append-nil (own by n log))

  -- a seat that is yet to come has no entries
  pub own_none : (n : ℕ) (log : List E) → All (λ e. by e ≢ n) log → own by n log ≡ []
  own_none n [] h = refl
  own_none n (e ∷ es) h = ap (λ b. cond b (e ∷ own by n es) (own by n es)) (ne_eqb (by e) n (All-head (λ x. by x ≢ n) e es h)) ∙ own_none n es (All-tail (λ x. by x ≢ n) e es h)

pub rising_within : (lo hi : ℕ) (ns : List ℕ) → Rising lo hi ns → lo ≤ hi
rising_within lo hi [] r = r
rising_within lo hi (n ∷ ns) r = let h = rising_within n hi ns r.1 in omega (arith, r.0)

pub rising_longer : (lo hi more : ℕ) (ns : List ℕ) → hi ≤ more → Rising lo hi ns → Rising lo more ns
rising_longer lo hi more [] le r = omega (arith, r)
rising_longer lo hi more (n ∷ ns) le r = (r.0, rising_longer n hi more ns le r.1)

pub rising_more : (lo hi : ℕ) (ns : List ℕ) → Rising lo hi ns → Rising lo hi (ns ++ hi ∷ [])
rising_more lo hi [] r = (r, omega arith)
rising_more lo hi (n ∷ ns) r = (r.0, rising_more n hi ns r.1)
