-- Lists that are made number by number, of which one number's part alone is not empty.

use Rattle.std.proofs.Common.{◌≡◌, ◌≢◌, ℕ, zero, suc, ◌+◌, ◌<◌, Bool, true, false, List, [], ◌∷◌, ◌++◌, filter, take, length, get_or, refl, sym, ap, ◌∙◌, inl, inr, arith, zero-add}
use Rattle.std.specs.Prelude.{if◌then◌else◌, Contains}
use Rattle.std.specs.List.{flat_map, range_with_len}
use Rattle.std.proofs.lemmas.Bool.{cases_Bool, cases_eq}
use Rattle.std.proofs.lemmas.List.{append-nil, take_more}
use Rattle.std.proofs.lemmas.List.Elements.{filter-append}
use Rattle.std.proofs.lemmas.List.FromFn.{length-range_with_len, get_or-range_with_len}
use Rattle.pin_graph.proofs.ArcLaws.{flat_numbers_more}
use Rattle.timing_defs.proofs.Members.{first_in, later_in}

pub in_range : (n k : ℕ) → Contains (range_with_len 0 n) k → k < n
in_range n k c =
    let low = c.1 in
    let at : get_or (range_with_len 0 n) c.0 k ≡ c.0 = get_or-range_with_len 0 n c.0 k (omega (arith, low, length-range_with_len 0 n)) ∙ zero-add c.0 in
    let is = c.2 in
    omega (arith, low, at, is, length-range_with_len 0 n)

module _ {X : Type 0} (p : X → Bool) where
  -- one item more, where it passes
  pub filter_more : (ys ys' : List X) (xs : List X) (i : ℕ) (x : X) → i < length xs → x ≡ get_or xs i x
      → ys ≡ filter p (take i xs) → ys' ≡ ys ++ (if p x then x ∷ [] else []) → ys' ≡ filter p (take (i + 1) xs)
  filter_more ys ys' xs i x low here had put =
      put ∙ ap (λ zs. zs ++ (if p x then x ∷ [] else [])) had
      ∙ ap (λ zs. filter p (take i xs) ++ zs) (one x)
      ∙ ap (λ (z : X). filter p (take i xs) ++ filter p (z ∷ [])) here
      ∙ sym (ap (filter p) (take_more xs i x low) ∙ filter-append p (take i xs) (get_or xs i x ∷ []))
    where
      one : (z : X) → (if p z then z ∷ [] else []) ≡ filter p (z ∷ [])
      one z = elim (cases_Bool (p z)) [ inl e ↦ rw e refl | inr e ↦ rw e refl ]

  pub filter_put : (ys ys' : List X) (xs : List X) (i : ℕ) (x : X) → i < length xs → x ≡ get_or xs i x → p x ≡ true
      → ys ≡ filter p (take i xs) → ys' ≡ ys ++ x ∷ [] → ys' ≡ filter p (take (i + 1) xs)
  filter_put ys ys' xs i x low here e had put =
      filter_more ys ys' xs i x low here had (put ∙ ap (λ b. ys ++ (if b then x ∷ [] else [])) (sym e))

  pub filter_left : (ys : List X) (xs : List X) (i : ℕ) (x : X) → i < length xs → x ≡ get_or xs i x → p x ≡ false
      → ys ≡ filter p (take i xs) → ys ≡ filter p (take (i + 1) xs)
  filter_left ys xs i x low here e had =
      filter_more ys ys xs i x low here had (sym (append-nil ys) ∙ ap (λ b. ys ++ (if b then x ∷ [] else [])) (sym e))

  pub filter_none : (xs : List X) → ((x : X) → Contains xs x → p x ≡ false) → filter p xs ≡ []
  filter_none [] none = refl
  filter_none (x ∷ xs) none = let e = none x (first_in x xs) in rw e (filter_none xs (λ y c. none y (later_in x xs y c)))

  pub filter_flat : {Y : Type 0} (f : Y → List X) (ys : List Y) → filter p (flat_map f ys) ≡ flat_map (λ y. filter p (f y)) ys
  filter_flat f [] = refl
  filter_flat f (y ∷ ys) = filter-append p (f y) (flat_map f ys) ∙ ap (λ zs. filter p (f y) ++ zs) (filter_flat f ys)

module _ {Y : Type 0} (f : ℕ → List Y) where
  one_more : (n : ℕ) → flat_map f (range_with_len 0 (suc n)) ≡ flat_map f (range_with_len 0 n) ++ f n
  one_more n =
      let e : suc n ≡ n + 1 = omega arith in
      ap (λ k. flat_map f (range_with_len 0 k)) e
      ∙ sym (flat_numbers_more f n (flat_map f (range_with_len 0 n)) (flat_map f (range_with_len 0 n) ++ f n) refl refl)

  pub flat_none : (n : ℕ) → ((k : ℕ) → k < n → f k ≡ []) → flat_map f (range_with_len 0 n) ≡ []
  flat_none zero none = refl
  flat_none (suc n) none =
      one_more n ∙ ap (λ zs. zs ++ f n) (flat_none n (λ k low. none k (omega arith))) ∙ none n (omega arith)

  -- all numbers but one give nothing
  pub flat_one : (n i : ℕ) → i < n → ((k : ℕ) → k < n → k ≢ i → f k ≡ []) → flat_map f (range_with_len 0 n) ≡ f i
  flat_one zero i low none = absurd (omega arith)
  flat_one (suc n) i low none = elim (cases_eq n i) [
    | inl same ↦
        one_more n ∙ ap (λ zs. zs ++ f n) (flat_none n (λ k l. none k (omega arith) (λ e. omega arith))) ∙ ap f same
    | inr other ↦
        one_more n ∙ ap (λ zs. zs ++ f n) (flat_one n i (omega arith) (λ k l e. none k (omega arith) e))
        ∙ ap (λ zs. f i ++ zs) (none n (omega arith) other) ∙ append-nil (f i)
  ]
