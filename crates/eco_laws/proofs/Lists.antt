-- What is found by a test in lists that are changed, and names in lists of two parts.

use Rattle.std.proofs.Common.{◌≡◌, ℕ, Bool, true, false, List, [], ◌∷◌, ◌++◌, map, filter, None, Some, refl, sym, ap, ◌∙◌, inl, inr}
use Rattle.std.specs.Prelude.{find, option_map, ◌||◌}
use Rattle.std.specs.Str.{bytes_eq}
use Rattle.std.proofs.lemmas.Bool.{cases_Bool, true≢false}
use Rattle.timing_defs.specs.Netlist.{is_listed}
use Rattle.timing_defs.proofs.SameNames.{same_is, same_self}

pub apart_sym : (a b : List ℕ) → bytes_eq a b ≡ false → bytes_eq b a ≡ false
apart_sym a b apart = elim (cases_Bool (bytes_eq b a)) [
  | inl h ↦ absurd (true≢false (sym (same_self a) ∙ ap (bytes_eq a) (sym (same_is b a h)) ∙ apart))
  | inr h ↦ h
]

module _ {X : Type 0} (test : X → Bool) where
  pub find_mapped : (change : X → X) → ((x : X) → test (change x) ≡ test x) → (xs : List X) → find test (map change xs) ≡ option_map change (find test xs)
  find_mapped change keeps [] = refl
  find_mapped change keeps (x ∷ xs) = elim (cases_Bool (test x)) [
    | inl e ↦ let f : test (change x) ≡ true = keeps x ∙ e in rw f (rw e refl)
    | inr e ↦ let f : test (change x) ≡ false = keeps x ∙ e in rw f (rw e (find_mapped change keeps xs))
  ]

  pub find_filtered : (keep : X → Bool) → ((x : X) → test x ≡ true → keep x ≡ true) → (xs : List X) → find test (filter keep xs) ≡ find test xs
  find_filtered keep stays [] = refl
  find_filtered keep stays (x ∷ xs) = elim (cases_Bool (test x)) [
    | inl e ↦ let f : keep x ≡ true = stays x e in rw f (rw e refl)
    | inr e ↦ elim (cases_Bool (keep x)) [
      | inl f ↦ rw f (rw e (find_filtered keep stays xs))
      | inr f ↦ rw f (rw e (find_filtered keep stays xs))
    ]
  ]

  pub find_pushed : (xs : List X) (x : X) → test x ≡ false → find test (xs ++ x ∷ []) ≡ find test xs
  find_pushed [] x other = rw other refl
  find_pushed (y ∷ ys) x other = elim (cases_Bool (test y)) [
    | inl e ↦ rw e refl
    | inr e ↦ rw e (find_pushed ys x other)
  ]

  -- of two lists one has none
  pub find_behind : (xs ys : List X) → find test xs ≡ None → find test (xs ++ ys) ≡ find test ys
  find_behind [] ys h = refl
  find_behind (x ∷ xs) ys h = elim (cases_Bool (test x)) [
    | inl e ↦ let f : Some x ≡ None = rw e at h in absurd (cc)
    | inr e ↦ rw e (find_behind xs ys (rw e at h))
  ]

  pub find_before : (xs ys : List X) → find test ys ≡ None → find test (xs ++ ys) ≡ find test xs
  find_before [] ys h = h
  find_before (x ∷ xs) ys h = elim (cases_Bool (test x)) [
    | inl e ↦ rw e refl
    | inr e ↦ rw e (find_before xs ys h)
  ]

pub either_false : (a b : Bool) → (a || b) ≡ false → (a ≡ false) × (b ≡ false)
either_false false b h = (refl, h)
either_false true b h = absurd (true≢false h)

pub unlisted_parts : (xs ys : List (List ℕ)) (name : List ℕ) → is_listed (xs ++ ys) name ≡ false → (is_listed xs name ≡ false) × (is_listed ys name ≡ false)
unlisted_parts [] ys name h = (refl, h)
unlisted_parts (x ∷ xs) ys name h =
    let k = either_false (bytes_eq name x) (is_listed (xs ++ ys) name) h in
    let r = unlisted_parts xs ys name k.1 in
    (rw k.0 r.0, r.1)

pub unlisted_one : (n name : List ℕ) → is_listed (n ∷ []) name ≡ false → bytes_eq name n ≡ false
unlisted_one n name h = (either_false (bytes_eq name n) false h).0

pub listed_left : (xs ys : List (List ℕ)) (name : List ℕ) → is_listed xs name ≡ true → is_listed (xs ++ ys) name ≡ true
listed_left [] ys name h = absurd (true≢false (sym h))
listed_left (x ∷ xs) ys name h = elim (cases_Bool (bytes_eq name x)) [
  | inl e ↦ rw e refl
  | inr e ↦ rw e (listed_left xs ys name (rw e at h))
]

pub listed_right : (xs ys : List (List ℕ)) (name : List ℕ) → is_listed ys name ≡ true → is_listed (xs ++ ys) name ≡ true
listed_right [] ys name h = h
listed_right (x ∷ xs) ys name h = elim (cases_Bool (bytes_eq name x)) [
  | inl e ↦ rw e refl
  | inr e ↦ rw e (listed_right xs ys name h)
]
