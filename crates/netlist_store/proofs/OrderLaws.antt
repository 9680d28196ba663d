-- Numbers in places, as one comes and as one goes.

use Rattle.std.proofs.Common.{◌≡◌, ◌≢◌, ◌⊎◌, ℕ, zero, suc, ◌<◌, true, false, List, [], ◌∷◌, ◌++◌, length, set, filter, Option, None, Some, refl, sym, ap, subst, ◌∙◌, inl, inr, arith, not}
use Rattle.std.specs.Prelude.{nat_eq, ◌||◌}
use Rattle.std.specs.List.{slice_get, list_any}
use Rattle.std.proofs.lemmas.Bool.{cases_Bool, cases_eq, false≢true}
use Rattle.std.proofs.lemmas.Bool.Decides.{eqb_tells}
use Rattle.std.proofs.lemmas.Option.{slice_get_within}
use Rattle.netlist_store.specs.Orders.{standing, ArePlaced, KeepsPlaces}

pub get_set_same : {X : Type 0} (xs : List X) (n : ℕ) (y : X) → n < length xs → slice_get (set xs n y) n ≡ Some y
get_set_same [] n y low = absurd (omega arith)
get_set_same (x ∷ xs) zero y low = refl
get_set_same (x ∷ xs) (suc n) y low = get_set_same xs n y (omega arith)

pub get_set_other : {X : Type 0} (xs : List X) (n m : ℕ) (y : X) → m ≢ n → slice_get (set xs n y) m ≡ slice_get xs m
get_set_other [] n m y apart = refl
get_set_other (x ∷ xs) zero zero y apart = absurd (apart refl)
get_set_other (x ∷ xs) zero (suc m) y apart = refl
get_set_other (x ∷ xs) (suc n) zero y apart = refl
get_set_other (x ∷ xs) (suc n) (suc m) y apart = get_set_other xs n m y (λ e. apart (ap suc e))

-- what is read of a list with one item more
pub get_push : {X : Type 0} (xs : List X) (y z : X) (m : ℕ) → slice_get (xs ++ y ∷ []) m ≡ Some z → (slice_get xs m ≡ Some z) ⊎ ((m ≡ length xs) × (y ≡ z))
get_push [] y z zero e = inr (refl, some_is e)
  where
    some_is : Some y ≡ Some z → y ≡ z
    some_is h = cc
get_push [] y z (suc m) e = absurd (cc)
get_push (x ∷ xs) y z zero e = inl e
get_push (x ∷ xs) y z (suc m) e = elim (get_push xs y z m e) [ inl h ↦ inl h | inr h ↦ inr (ap suc h.0, h.1) ]

pub get_push_kept : {X : Type 0} (xs : List X) (y z : X) (m : ℕ) → slice_get xs m ≡ Some z → slice_get (xs ++ y ∷ []) m ≡ Some z
get_push_kept [] y z m e = absurd (cc)
get_push_kept (x ∷ xs) y z zero e = e
get_push_kept (x ∷ xs) y z (suc m) e = get_push_kept xs y z m e

-- a number that stands has a place
place_of : (order : List (Option ℕ)) (n : ℕ) → list_any (nat_eq n) (standing order) ≡ true → (p : ℕ) × (slice_get order p ≡ Some (Some n))
place_of [] n h = absurd (false≢true h)
place_of (None ∷ os) n h = let rest = place_of os n h in (suc rest.0, rest.1)
place_of (Some m ∷ os) n h = elim (eqb_tells n m) [
  | inl e ↦ (0, ap (λ k. Some (Some k)) (sym e.1))
  | inr e ↦ let rest = place_of os n (subst (λ b. (b || list_any (nat_eq n) (standing os)) ≡ true) e.0 h) in (suc rest.0, rest.1)
]

-- where a place has a number, the number stands
pub stands_at : (order : List (Option ℕ)) (n p : ℕ) → slice_get order p ≡ Some (Some n) → list_any (nat_eq n) (standing order) ≡ true
stands_at [] n p e = absurd (cc)
stands_at (None ∷ os) n zero e = absurd (cc)
stands_at (None ∷ os) n (suc p) e = stands_at os n p e
stands_at (Some m ∷ os) n zero e = elim (eqb_tells n m) [
  | inl h ↦ rw h.0 refl
  | inr h ↦ absurd (h.1 (inner e))
]
  where
    inner : Some (Some m) ≡ Some (Some n) → n ≡ m
    inner h = cc
stands_at (Some m ∷ os) n (suc p) e = elim (cases_Bool (nat_eq n m)) [
  | inl h ↦ rw h refl
  | inr h ↦ rw h (stands_at os n p e)
]

pub standing_push : (order : List (Option ℕ)) (n : ℕ) → standing (order ++ Some n ∷ []) ≡ standing order ++ n ∷ []
standing_push [] n = refl
standing_push (None ∷ os) n = standing_push os n
standing_push (Some m ∷ os) n = ap (λ ns. m ∷ ns) (standing_push os n)

-- without the numbers of a value: nothing goes where none has it
none_goes : (order : List (Option ℕ)) (n : ℕ) → ((p : ℕ) → slice_get order p ≢ Some (Some n)) → filter (λ m. not (nat_eq n m)) (standing order) ≡ standing order
none_goes [] n none = refl
none_goes (None ∷ os) n none = none_goes os n (λ p. none (suc p))
none_goes (Some m ∷ os) n none = elim (eqb_tells n m) [
  | inl h ↦ absurd (none 0 (ap (λ k. Some (Some k)) (sym h.1)))
  | inr h ↦ rw h.0 (ap (λ ns. m ∷ ns) (none_goes os n (λ p. none (suc p))))
]

one_goes : (order : List (Option ℕ)) (n p : ℕ) → slice_get order p ≡ Some (Some n) → ((q : ℕ) → slice_get order q ≡ Some (Some n) → q ≡ p)
    → standing (set order p None) ≡ filter (λ m. not (nat_eq n m)) (standing order)
one_goes [] n p here once = absurd (cc)
one_goes (None ∷ os) n zero here once = absurd (cc)
one_goes (None ∷ os) n (suc p) here once = one_goes os n p here (λ q e. pred (once (suc q) e))
  where
    pred : {a b : ℕ} → suc a ≡ suc b → a ≡ b
    pred e = omega (arith, e)
one_goes (Some m ∷ os) n zero here once =
    let same : nat_eq n m ≡ true = elim (eqb_tells n m) [ inl h ↦ h.0 | inr h ↦ absurd (h.1 (inner here)) ] in
    rw same (sym (none_goes os n (λ q e. apart q (once (suc q) e))))
  where
    inner : Some (Some m) ≡ Some (Some n) → n ≡ m
    inner h = cc

    apart : (q : ℕ) → suc q ≡ 0 → ⊥
    apart q e = omega (arith, e)
one_goes (Some m ∷ os) n (suc p) here once =
    let other : nat_eq n m ≡ false = elim (eqb_tells n m) [ inl h ↦ absurd (apart p (once 0 (ap (λ k. Some (Some k)) (sym h.1)))) | inr h ↦ h.0 ] in
    rw other (ap (λ ns. m ∷ ns) (one_goes os n p here (λ q e. pred (once (suc q) e))))
  where
    pred : {a b : ℕ} → suc a ≡ suc b → a ≡ b
    pred e = omega (arith, e)

    apart : (q : ℕ) → 0 ≡ suc q → ⊥
    apart q e = omega (arith, e)

module _ (order : List (Option ℕ)) (places : List ℕ) (placed : ArePlaced order places) (numbers : List ℕ) (view : standing order ≡ numbers) (n : ℕ) where
  -- a number comes
  pub comes : (after : List ℕ) (order' : List (Option ℕ)) (p : ℕ) → list_any (nat_eq n) numbers ≡ false → p ≡ length order → order' ≡ order ++ Some n ∷ []
      → slice_get after n ≡ Some p → KeepsPlaces n places after → ArePlaced order' after
  comes after order' p new last put here kept q m e = by (get_push order (Some n) (Some m) q (subst (λ os. slice_get os q ≡ Some (Some m)) put e))
    where
      by : (slice_get order q ≡ Some (Some m)) ⊎ ((q ≡ length order) × (Some n ≡ Some m)) → slice_get after m ≡ Some q
      by (inl h) = kept m q (λ same. false≢true (sym new ∙ ap (list_any (nat_eq n)) (sym view) ∙ stands_at order n q (h ∙ ap (λ k. Some (Some k)) same))) (placed q m h)
      by (inr h) = let same : n ≡ m = inner h.1 in ap (slice_get after) (sym same) ∙ here ∙ ap Some (last ∙ sym h.0)
        where
          inner : Some n ≡ Some m → n ≡ m
          inner f = cc

  pub comes_last : (order' : List (Option ℕ)) → order' ≡ order ++ Some n ∷ [] → standing order' ≡ numbers ++ n ∷ []
  comes_last order' put = ap standing put ∙ standing_push order n ∙ ap (λ ns. ns ++ n ∷ []) view

  -- a number goes
  pub here_at : (p : ℕ) → list_any (nat_eq n) numbers ≡ true → slice_get places n ≡ Some p → slice_get order p ≡ Some (Some n)
  here_at p some at =
      let found = place_of order n (ap (list_any (nat_eq n)) view ∙ some) in
      ap (slice_get order) (inner (sym at ∙ placed found.0 n found.1)) ∙ found.1
    where
      inner : {a b : ℕ} → Some a ≡ Some b → a ≡ b
      inner f = cc

  pub known : list_any (nat_eq n) numbers ≡ true → n < length places
  known some =
      let found = place_of order n (ap (list_any (nat_eq n)) view ∙ some) in
      slice_get_within places n found.0 (placed found.0 n found.1)

  pub inside : (p : ℕ) → list_any (nat_eq n) numbers ≡ true → slice_get places n ≡ Some p → p < length order
  inside p some at = slice_get_within order p (Some n) (here_at p some at)

  pub goes : (order' : List (Option ℕ)) (p : ℕ) → list_any (nat_eq n) numbers ≡ true → slice_get places n ≡ Some p → order' ≡ set order p None
      → standing order' ≡ filter (λ m. not (nat_eq n m)) numbers
  goes order' p some at put =
      ap standing put ∙ one_goes order n p (here_at p some at) (λ q e. inner (sym (placed q n e) ∙ at))
      ∙ ap (filter (λ m. not (nat_eq n m))) view
    where
      inner : {a b : ℕ} → Some a ≡ Some b → a ≡ b
      inner f = cc

  pub goes_placed : (order' : List (Option ℕ)) (p : ℕ) → order' ≡ set order p None → p < length order → ArePlaced order' places
  goes_placed order' p put low q m e = by (cases_eq q p)
    where
      read : slice_get (set order p None) q ≡ Some (Some m)
      read = subst (λ os. slice_get os q ≡ Some (Some m)) put e

      by : ((q ≡ p) ⊎ (q ≢ p)) → slice_get places m ≡ Some q
      by (inl same) = let f : slice_get (set order p None) q ≡ Some None = ap (slice_get (set order p None)) same ∙ get_set_same order p None low in absurd (inner (sym f ∙ read))
        where
          inner : Some None ≡ Some (Some m) → ⊥
          inner h = absurd (cc)
      by (inr apart) = placed q m (sym (get_set_other order p q None apart) ∙ read)
