-- Members of lists that are made of others.

use Rattle.std.proofs.Common.{◌≡◌, ◌⊎◌, ℕ, zero, suc, ◌<◌, Bool, true, not, List, [], ◌∷◌, map, filter, length, get_or, Option, None, Some, refl, sym, ap, subst, ◌∙◌, inl, inr, arith}
use Rattle.std.specs.Prelude.{find}
use Rattle.std.specs.List.{cons_option, Contains, list_any, list_all, flat_map, filter_map, range_with_len}
use Rattle.std.specs.Str.{bytes_eq}
use Rattle.std.proofs.lemmas.Bool.{cases_Bool, false≢true, and_parts, not-true, or_cases}
use Rattle.std.proofs.lemmas.List.{length-map, get_or-map}
use Rattle.std.proofs.lemmas.List.Elements.{Contains-append_left, Contains-append_right, Contains-append_cases, filter_passes, All-contains, All-filter, All-contains_itself}
use Rattle.std.proofs.lemmas.List.Folds.{list_any_at}
use Rattle.std.proofs.lemmas.List.FromFn.{length-range_with_len, get_or-range_with_len}
use Rattle.timing_defs.specs.Netlist.{is_listed, are_distinct}
use Rattle.timing_defs.proofs.SameNames.{same_is, same_self}

pub some_is : {X : Type 0} {x y : X} → Some x ≡ Some y → x ≡ y
some_is e = cc

pub first_in : {X : Type 0} (x : X) (xs : List X) → Contains (x ∷ xs) x
first_in x xs = (0, omega arith, refl)

pub later_in : {X : Type 0} (y : X) (xs : List X) (x : X) → Contains xs x → Contains (y ∷ xs) x
later_in y xs x c = let low = c.1 in (suc c.0, omega arith, c.2)

pub in_cases : {X : Type 0} (y : X) (xs : List X) (x : X) → Contains (y ∷ xs) x → (y ≡ x) ⊎ Contains xs x
in_cases y xs x c = by c.0 c.1 c.2
  where
    by : (k : ℕ) → k < length (y ∷ xs) → get_or (y ∷ xs) k x ≡ x → (y ≡ x) ⊎ Contains xs x
    by zero l e = inl e
    by (suc k) l e = inr (k, omega arith, e)

pub none_in : {X : Type 0} (x : X) → Contains [] x → ⊥
none_in x c = let low = c.1 in omega arith

-- an item that a function takes to another
pub record IsMapped {X Y : Type 0} (f : X → Y) (xs : List X) (y : Y) : Type 0 where
  pub item : X
  pub within : Contains xs item
  pub same : f item ≡ y

pub record IsAmong {X Y : Type 0} (f : X → List Y) (xs : List X) (y : Y) : Type 0 where
  pub item : X
  pub within : Contains xs item
  pub inside : Contains (f item) y

module _ {X Y : Type 0} (f : X → Y) where
  pub in_map : (xs : List X) (x : X) → Contains xs x → Contains (map f xs) (f x)
  in_map xs x c = let low = c.1 in (c.0, omega (arith, length-map xs f), get_or-map f xs c.0 x (f x) c.1 ∙ ap f c.2)

  pub in_map_back : (xs : List X) (y : Y) → Contains (map f xs) y → IsMapped f xs y
  in_map_back [] y c = absurd (none_in y c)
  in_map_back (x ∷ xs) y c = elim (in_cases (f x) (map f xs) y c) [
    | inl e ↦ record { item = x; within = first_in x xs; same = e }
    | inr d ↦ let r = in_map_back xs y d in record { item = r.item; within = later_in x xs r.item r.within; same = r.same }
  ]

module _ {X Y : Type 0} (f : X → List Y) where
  pub in_flat_map : (xs : List X) (x : X) (y : Y) → Contains xs x → Contains (f x) y → Contains (flat_map f xs) y
  in_flat_map [] x y c inside = absurd (none_in x c)
  in_flat_map (z ∷ zs) x y c inside = elim (in_cases z zs x c) [
    | inl e ↦ Contains-append_left (f z) (flat_map f zs) y (subst (λ (w : X). Contains (f w) y) (sym e) inside)
    | inr d ↦ Contains-append_right (f z) (flat_map f zs) y (in_flat_map zs x y d inside)
  ]

  pub in_flat_map_back : (xs : List X) (y : Y) → Contains (flat_map f xs) y → IsAmong f xs y
  in_flat_map_back [] y c = absurd (none_in y c)
  in_flat_map_back (x ∷ xs) y c = elim (Contains-append_cases (f x) (flat_map f xs) y c) [
    | inl d ↦ record { item = x; within = first_in x xs; inside = d }
    | inr d ↦ let r = in_flat_map_back xs y d in record { item = r.item; within = later_in x xs r.item r.within; inside = r.inside }
  ]

module _ {X Y : Type 0} (h : X → Option Y) where
  more_in : (o : Option Y) (ys : List Y) (y : Y) → Contains ys y → Contains (cons_option o ys) y
  more_in None ys y d = d
  more_in (Some w) ys y d = later_in w ys y d

  pub in_filter_map : (xs : List X) (x : X) (y : Y) → Contains xs x → h x ≡ Some y → Contains (filter_map h xs) y
  in_filter_map [] x y c e = absurd (none_in x c)
  in_filter_map (z ∷ zs) x y c e = elim (in_cases z zs x c) [
    | inl same ↦ let f : h z ≡ Some y = ap h same ∙ e in rw f (first_in y (filter_map h zs))
    | inr d ↦ more_in (h z) (filter_map h zs) y (in_filter_map zs x y d e)
  ]

  one_more : (x : X) (xs : List X) (y : Y) (o : Option Y) → h x ≡ o → Contains (cons_option o (filter_map h xs)) y
      → (Contains (filter_map h xs) y → IsMapped h xs (Some y)) → IsMapped h (x ∷ xs) (Some y)
  one_more x xs y None e d again =
      let r = again d in record { item = r.item; within = later_in x xs r.item r.within; same = r.same }
  one_more x xs y (Some w) e d again = elim (in_cases w (filter_map h xs) y d) [
    | inl same ↦ record { item = x; within = first_in x xs; same = e ∙ ap Some same }
    | inr d2 ↦ let r = again d2 in record { item = r.item; within = later_in x xs r.item r.within; same = r.same }
  ]

  pub in_filter_map_back : (xs : List X) (y : Y) → Contains (filter_map h xs) y → IsMapped h xs (Some y)
  in_filter_map_back [] y c = absurd (none_in y c)
  in_filter_map_back (x ∷ xs) y c = one_more x xs y (h x) refl c (λ d. in_filter_map_back xs y d)

module _ {X : Type 0} (p : X → Bool) where
  pub in_filter : (xs : List X) (x : X) → Contains xs x → p x ≡ true → Contains (filter p xs) x
  in_filter [] x c e = absurd (none_in x c)
  in_filter (z ∷ zs) x c e = elim (in_cases z zs x c) [
    | inl same ↦ let f : p z ≡ true = ap p same ∙ e in rw f (subst (λ (w : X). Contains (z ∷ filter p zs) w) same (first_in z (filter p zs)))
    | inr d ↦ elim (cases_Bool (p z)) [
      | inl f ↦ rw f (later_in z (filter p zs) x (in_filter zs x d e))
      | inr f ↦ rw f (in_filter zs x d e)
    ]
  ]

  pub passes_in : (xs : List X) (x : X) → Contains (filter p xs) x → p x ≡ true
  passes_in xs x c = All-contains (λ (y : X). p y ≡ true) (filter p xs) x (filter_passes p xs) c

  pub kept_in : (xs : List X) (x : X) → Contains (filter p xs) x → Contains xs x
  kept_in xs x c = All-contains (Contains xs) (filter p xs) x (All-filter p (Contains xs) xs (All-contains_itself xs)) c

  pub any_in : (xs : List X) (x : X) → Contains xs x → p x ≡ true → list_any p xs ≡ true
  any_in xs x c e = list_any_at p xs c.0 x c.1 (ap p c.2 ∙ e)

  pub record IsPassing (xs : List X) : Type 0 where
    pub item : X
    pub within : Contains xs item
    pub passes : p item ≡ true

  pub any_back : (xs : List X) → list_any p xs ≡ true → IsPassing xs
  any_back [] e = absurd (false≢true e)
  any_back (x ∷ xs) e = elim (or_cases (p x) (list_any p xs) e) [
    | inl h ↦ record { item = x; within = first_in x xs; passes = h }
    | inr h ↦ let r = any_back xs h in record { item = r.item; within = later_in x xs r.item r.within; passes = r.passes }
  ]

  pub all_in : (xs : List X) (x : X) → list_all p xs ≡ true → Contains xs x → p x ≡ true
  all_in [] x h c = absurd (none_in x c)
  all_in (y ∷ ys) x h c =
      let parts = and_parts (p y) (list_all p ys) h in
      elim (in_cases y ys x c) [ inl e ↦ ap p (sym e) ∙ parts.0 | inr d ↦ all_in ys x parts.1 d ]

  pub found_in : (xs : List X) (x : X) → find p xs ≡ Some x → Contains xs x
  found_in [] x e = absurd (cc)
  found_in (y ∷ ys) x e = elim (cases_Bool (p y)) [
    | inl h ↦ let f : Some y ≡ Some x = rw h at e in subst (λ (w : X). Contains (y ∷ ys) w) (some_is f) (first_in y ys)
    | inr h ↦ let f : find p ys ≡ Some x = rw h at e in later_in y ys x (found_in ys x f)
  ]

  pub found_passes : (xs : List X) (x : X) → find p xs ≡ Some x → p x ≡ true
  found_passes [] x e = absurd (cc)
  found_passes (y ∷ ys) x e = elim (cases_Bool (p y)) [
    | inl h ↦ let f : Some y ≡ Some x = rw h at e in ap p (sym (some_is f)) ∙ h
    | inr h ↦ let f : find p ys ≡ Some x = rw h at e in found_passes ys x f
  ]

  pub found_some : (xs : List X) (x : X) → Contains xs x → p x ≡ true → IsPassing xs → find p xs ≡ None → ⊥
  found_some [] x c e r none = none_in x c
  found_some (y ∷ ys) x c e r none = elim (cases_Bool (p y)) [
    | inl h ↦ let f : Some y ≡ None = rw h at none in absurd (cc)
    | inr h ↦
        let f : find p ys ≡ None = rw h at none in
        elim (in_cases y ys x c) [
          | inl same ↦ absurd (false≢true (sym h ∙ ap p same ∙ e))
          | inr d ↦ found_some ys x d e (record { item = x; within = d; passes = e }) f
        ]
  ]

module _ {X : Type 0} (name : X → List ℕ) where
  pub listed_in : (xs : List X) (x : X) → Contains xs x → is_listed (map name xs) (name x) ≡ true
  listed_in xs x c = any_in (bytes_eq (name x)) (map name xs) (name x) (in_map name xs x c) (same_self (name x))

  -- of distinct names, each finds its own
  pub found_by : (xs : List X) (x : X) → are_distinct (map name xs) ≡ true → Contains xs x → find (λ y. bytes_eq (name y) (name x)) xs ≡ Some x
  found_by [] x d c = absurd (none_in x c)
  found_by (y ∷ ys) x d c =
      let parts = and_parts (not (is_listed (map name ys) (name y))) (are_distinct (map name ys)) d in
      elim (in_cases y ys x c) [
        | inl same ↦ let f : bytes_eq (name y) (name x) ≡ true = ap (λ z. bytes_eq (name z) (name x)) same ∙ same_self (name x) in rw f (ap Some same)
        | inr e ↦ elim (cases_Bool (bytes_eq (name y) (name x))) [
          | inl h ↦
              let twice : is_listed (map name ys) (name y) ≡ true = ap (is_listed (map name ys)) (same_is (name y) (name x) h) ∙ listed_in ys x e in
              absurd (false≢true (sym (not-true (is_listed (map name ys) (name y)) parts.0) ∙ twice))
          | inr h ↦ rw h (found_by ys x parts.1 e)
        ]
      ]

-- the numbers below a bound
pub number_in : (n i : ℕ) → i < n → Contains (range_with_len 0 n) i
number_in n i low = (i, omega (arith, length-range_with_len 0 n), let e = get_or-range_with_len 0 n i i low in omega arith)
