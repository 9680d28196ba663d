-- Items and their results, one by one.

use Rattle.std.proofs.Common.{◌≡◌, ◌⊎◌, ℕ, zero, suc, ◌<◌, true, false, List, [], ◌∷◌, length, get_or, Some, refl, sym, ap, subst, ◌∙◌, inl, inr, arith}
use Rattle.std.specs.Prelude.{nat_eq, find, Contains}
use Rattle.std.proofs.lemmas.Bool.{cases_Bool, eqb-true, eq-eqb}
use Rattle.level_workers.specs.Mapped.{IsMap}

pub first_in : {X : Type 0} (x : X) (xs : List X) → Contains (x ∷ xs) x
first_in x xs = (0, omega arith, refl)

pub later_in : {X : Type 0} (y : X) (xs : List X) (x : X) → Contains xs x → Contains (y ∷ xs) x
later_in y xs x c = let low = c.1 in (suc c.0, omega arith, c.2)

pub in_cases : {X : Type 0} (y : X) (xs : List X) (x : X) → Contains (y ∷ xs) x → (y ≡ x) ⊎ Contains xs x
in_cases y xs x c = by c.0 c.1 c.2
  where
    by : (k : ℕ) → k < length (y ∷ xs) → get_or (y ∷ xs) k x ≡ x → (y ≡ x) ⊎ Contains xs x
    by zero l e = inl e
    by (suc k) l e = inr (k, omega arith, e)

pub none_in : {X : Type 0} (x : X) → Contains [] x → ⊥
none_in x c = let low = c.1 in omega arith

module _ {I E : Type 0} (R : I → E → Type 0) where
  -- a result is that of an item
  pub record IsOfItem (xs : List I) (r : E) : Type 0 where
    pub item : I
    pub within : Contains xs item
    pub gives : R item r

  pub item_of : (xs : List I) (rs : List E) → IsMap R xs rs → (r : E) → Contains rs r → IsOfItem xs r
  item_of [] [] m r c = absurd (none_in r c)
  item_of [] (s ∷ rs) m r c = absurd m
  item_of (x ∷ xs) [] m r c = absurd m
  item_of (x ∷ xs) (s ∷ rs) m r c = elim (in_cases s rs r c) [
    | inl e ↦ record { item = x; within = first_in x xs; gives = subst (λ (t : E). R x t) e m.0 }
    | inr d ↦ let o = item_of xs rs m.1 r d in record { item = o.item; within = later_in x xs o.item o.within; gives = o.gives }
  ]

  -- an item has a result
  pub record HasResult (rs : List E) (x : I) : Type 0 where
    pub result : E
    pub within : Contains rs result
    pub gives : R x result

  pub result_of : (xs : List I) (rs : List E) → IsMap R xs rs → (x : I) → Contains xs x → HasResult rs x
  result_of [] rs m x c = absurd (none_in x c)
  result_of (y ∷ xs) [] m x c = absurd m
  result_of (y ∷ xs) (s ∷ rs) m x c = elim (in_cases y xs x c) [
    | inl e ↦ record { result = s; within = first_in s rs; gives = subst (λ (t : I). R t s) e m.0 }
    | inr d ↦ let o = result_of xs rs m.1 x d in record { result = o.result; within = later_in s rs o.result o.within; gives = o.gives }
  ]

  -- lists of results that are one for each item are one
  pub one_map : ((x : I) (r s : E) → R x r → R x s → r ≡ s) → (xs : List I) (rs ss : List E) → IsMap R xs rs → IsMap R xs ss → rs ≡ ss
  one_map one [] [] [] m n = refl
  one_map one [] [] (s ∷ ss) m n = absurd n
  one_map one [] (r ∷ rs) ss m n = absurd m
  one_map one (x ∷ xs) [] ss m n = absurd m
  one_map one (x ∷ xs) (r ∷ rs) [] m n = absurd n
  one_map one (x ∷ xs) (r ∷ rs) (s ∷ ss) m n = ap (λ y. y ∷ rs) (one x r s m.0 n.0) ∙ ap (λ ys. s ∷ ys) (one_map one xs rs ss m.1 n.1)

-- what is kept with a number is found by it
module _ {E : Type 0} (R : ℕ → E → Type 0) (key : E → ℕ) (keyed : (n : ℕ) (r : E) → R n r → key r ≡ n) where
  pub found_at : (xs : List ℕ) (rs : List E) → IsMap R xs rs → (n : ℕ) → Contains xs n → (r : E) × (find (λ e. nat_eq (key e) n) rs ≡ Some r) × R n r
  found_at [] rs m n c = absurd (none_in n c)
  found_at (x ∷ xs) [] m n c = absurd m
  found_at (x ∷ xs) (s ∷ rs) m n c = by (λ d. found_at xs rs m.1 n d) (cases_Bool (nat_eq (key s) n))
    where
      by : (Contains xs n → (r : E) × (find (λ e. nat_eq (key e) n) rs ≡ Some r) × R n r) → (nat_eq (key s) n ≡ true) ⊎ (nat_eq (key s) n ≡ false)
          → (r : E) × (find (λ e. nat_eq (key e) n) (s ∷ rs) ≡ Some r) × R n r
      by later (inl h) =
          let same : x ≡ n = sym (keyed x s m.0) ∙ eqb-true (key s) n h in
          (s, rw h refl, subst (λ (k : ℕ). R k s) same m.0)
      by later (inr h) = elim (in_cases x xs n c) [
        | inl e ↦
            let bad : nat_eq (key s) n ≡ true = eq-eqb (key s) n (keyed x s m.0 ∙ e) in
            absurd (differ (sym h ∙ bad))
        | inr d ↦ let r = later d in (r.0, rw h r.1, r.2)
      ]
        where
          differ : false ≡ true → ⊥
          differ e = cc
