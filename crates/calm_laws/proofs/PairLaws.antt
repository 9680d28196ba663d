-- Lists of pairs.

use Rattle.std.proofs.Common.{◌≡◌, suc, Bool, true, false, List, [], ◌∷◌, map, filter, length, refl, sym, ap, subst, ◌∙◌, inl, inr}
use Rattle.std.specs.Prelude.{Contains, ◌&&◌, ◌||◌, Option}
use Rattle.std.specs.List.{list_any, list_all}
use Rattle.std.proofs.lemmas.Bool.{cases_Bool}
use Rattle.timing_defs.specs.declared.kinds.Split.{Split}
use Rattle.std.specs.Prelude.{ℤ}
use Rattle.timing_rules.specs.Rows.{outermost, outer_some}
use Rattle.timing_defs.proofs.Members.{first_in, later_in, in_cases, none_in}
use Rattle.calm_laws.specs.Pairs.{ArePairs}

-- a list that is filtered twice
pub filter_twice : {X : Type 0} (p q : X → Bool) (xs : List X) → filter q (filter p xs) ≡ filter (λ x. p x && q x) xs
filter_twice p q [] = refl
filter_twice p q (x ∷ xs) = elim (cases_Bool (p x)) [
  | inl e ↦ elim (cases_Bool (q x)) [
    | inl f ↦ rw e (rw f (ap (λ ys. x ∷ ys) (filter_twice p q xs)))
    | inr f ↦ rw e (rw f (filter_twice p q xs))
  ]
  | inr e ↦ rw e (filter_twice p q xs)
]

-- tests that agree on a list's items
pub filter_agree : {X : Type 0} (p q : X → Bool) (xs : List X) → ((x : X) → Contains xs x → p x ≡ q x) → filter p xs ≡ filter q xs
filter_agree p q [] same = refl
filter_agree p q (x ∷ xs) same =
    let rest = filter_agree p q xs (λ y c. same y (later_in x xs y c)) in
    elim (cases_Bool (q x)) [
      | inl e ↦ let f : p x ≡ true = same x (first_in x xs) ∙ e in rw e (rw f (ap (λ ys. x ∷ ys) rest))
      | inr e ↦ let f : p x ≡ false = same x (first_in x xs) ∙ e in rw e (rw f rest)
    ]

module _ {X Y : Type 0} (R : X → Y → Type 0) where
  -- pairs of lists that are those of other lists
  pub pairs_are : (xs xs' : List X) (ys ys' : List Y) → xs ≡ xs' → ys ≡ ys' → ArePairs R xs' ys' → ArePairs R xs ys
  pairs_are xs xs' ys ys' e f r = subst (λ zs. ArePairs R zs ys) (sym e) (subst (λ zs. ArePairs R xs' zs) (sym f) r)

  -- each item of the second list has one of the first
  pub pair_of : (xs : List X) (ys : List Y) → ArePairs R xs ys → (y : Y) → Contains ys y → (x : X) × (Contains xs x × R x y)
  pair_of [] [] r y c = absurd (none_in y c)
  pair_of [] (z ∷ zs) r y c = absurd r
  pair_of (x ∷ xs) [] r y c = absurd r
  pair_of (x ∷ xs) (z ∷ zs) r y c = elim (in_cases z zs y c) [
    | inl e ↦ (x, (first_in x xs, subst (λ w. R x w) e r.0))
    | inr k ↦ let s = pair_of xs zs r.1 y k in (s.0, (later_in x xs s.0 s.1.0, s.1.1))
  ]

  pub pair_from : (xs : List X) (ys : List Y) → ArePairs R xs ys → (x : X) → Contains xs x → (y : Y) × (Contains ys y × R x y)
  pair_from [] [] r x c = absurd (none_in x c)
  pair_from [] (z ∷ zs) r x c = absurd r
  pair_from (w ∷ ws) [] r x c = absurd r
  pair_from (w ∷ ws) (z ∷ zs) r x c = elim (in_cases w ws x c) [
    | inl e ↦ (z, (first_in z zs, subst (λ v. R v z) e r.0))
    | inr k ↦ let s = pair_from ws zs r.1 x k in (s.0, (later_in z zs s.0 s.1.0, s.1.1))
  ]

  -- what two functions make of one list, where their tests agree
  module _ {K : Type 0} (f : K → X) (g : K → Y) (p : X → Bool) (q : Y → Bool) where
    pub pairs_made : (ks : List K) → ((k : K) → Contains ks k → p (f k) ≡ q (g k))
        → ((k : K) → Contains ks k → p (f k) ≡ true → q (g k) ≡ true → R (f k) (g k)) → ArePairs R (filter p (map f ks)) (filter q (map g ks))
    pairs_made [] same each = tt
    pairs_made (k ∷ ks) same each =
        let rest = pairs_made ks (λ j c. same j (later_in k ks j c)) (λ j c. each j (later_in k ks j c)) in
        elim (cases_Bool (q (g k))) [
          | inl e ↦ let h : p (f k) ≡ true = same k (first_in k ks) ∙ e in rw e (rw h (each k (first_in k ks) h e, rest))
          | inr e ↦ let h : p (f k) ≡ false = same k (first_in k ks) ∙ e in rw e (rw h rest)
        ]

  -- another relation on the same lists
  module _ (S : X → Y → Type 0) (each : (x : X) (y : Y) → R x y → S x y) where
    pub pairs_so : (xs : List X) (ys : List Y) → ArePairs R xs ys → ArePairs S xs ys
    pairs_so [] [] r = r
    pairs_so [] (y ∷ ys) r = absurd r
    pairs_so (x ∷ xs) [] r = absurd r
    pairs_so (x ∷ xs) (y ∷ ys) r = (each x y r.0, pairs_so xs ys r.1)

  -- both of two relations
  pub both_pairs : (S : X → Y → Type 0) (xs : List X) (ys : List Y) → ArePairs R xs ys → ArePairs S xs ys → ArePairs (λ x y. R x y × S x y) xs ys
  both_pairs S [] [] r s = tt
  both_pairs S [] (y ∷ ys) r s = absurd r
  both_pairs S (x ∷ xs) [] r s = absurd r
  both_pairs S (x ∷ xs) (y ∷ ys) r s = ((r.0, s.0), both_pairs S xs ys r.1 s.1)

-- what is folded of pairs on which two functions agree
module _ {X Y : Type 0} where
  pub outermost_pairs : (split : Split) (f : X → Option ℤ) (g : Y → Option ℤ) (best : Option ℤ) (xs : List X) (ys : List Y)
      → ArePairs (λ x y. f x ≡ g y) xs ys → outermost split f best xs ≡ outermost split g best ys
  outermost_pairs split f g best [] [] r = refl
  outermost_pairs split f g best [] (y ∷ ys) r = absurd r
  outermost_pairs split f g best (x ∷ xs) [] r = absurd r
  outermost_pairs split f g best (x ∷ xs) (y ∷ ys) r =
      ap (λ v. outermost split f (outer_some split best v) xs) r.0 ∙ outermost_pairs split f g (outer_some split best (g y)) xs ys r.1

  pub any_pairs : (p : X → Bool) (q : Y → Bool) (xs : List X) (ys : List Y) → ArePairs (λ x y. p x ≡ q y) xs ys → list_any p xs ≡ list_any q ys
  any_pairs p q [] [] r = refl
  any_pairs p q [] (y ∷ ys) r = absurd r
  any_pairs p q (x ∷ xs) [] r = absurd r
  any_pairs p q (x ∷ xs) (y ∷ ys) r = λ k. r.0 k || any_pairs p q xs ys r.1 k

  pub all_pairs : (p : X → Bool) (q : Y → Bool) (xs : List X) (ys : List Y) → ArePairs (λ x y. p x ≡ q y) xs ys → list_all p xs ≡ list_all q ys
  all_pairs p q [] [] r = refl
  all_pairs p q [] (y ∷ ys) r = absurd r
  all_pairs p q (x ∷ xs) [] r = absurd r
  all_pairs p q (x ∷ xs) (y ∷ ys) r = λ k. r.0 k && all_pairs p q xs ys r.1 k

-- as many items in both
pub pairs_many : {X Y : Type 0} (R : X → Y → Type 0) (xs : List X) (ys : List Y) → ArePairs R xs ys → length xs ≡ length ys
pairs_many R [] [] r = refl
pairs_many R [] (y ∷ ys) r = absurd r
pairs_many R (x ∷ xs) [] r = absurd r
pairs_many R (x ∷ xs) (y ∷ ys) r = ap suc (pairs_many R xs ys r.1)
