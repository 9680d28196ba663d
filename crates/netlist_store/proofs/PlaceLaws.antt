-- Numbers that are the places of names in a list.

use Rattle.std.proofs.Common.{◌≡◌, ◌≢◌, ℕ, zero, suc, ◌≤◌, ◌+◌, Bool, true, false, not, List, [], ◌∷◌, ◌++◌, map, length, take, Option, None, Some, refl, sym, ap, ◌∙◌, inl, inr, arith, lt-ltb, le-ltb, if◌then◌else◌}
use Rattle.std.specs.Prelude.{find, is_some, nat_eq, nat_lt, ◌&&◌, ◌||◌}
use Rattle.std.specs.List.{slice_get, list_any, filter_map, position_or_len}
use Rattle.std.specs.Str.{bytes_eq}
use Rattle.std.proofs.lemmas.Bool.{cases_Bool, cases_lt, false≢true}
use Rattle.std.proofs.lemmas.Bool.Decides.{eqb_tells}
use Rattle.std.proofs.lemmas.List.{take_all}
use Rattle.std.proofs.lemmas.List.Elements.{filter_map-append}
use Rattle.timing_defs.specs.Netlist.{is_listed, are_distinct}
use Rattle.timing_defs.proofs.SameNames.{same-sym}
use Rattle.netlist_store.specs.Numbering.{name_at, number_of, is_named}
use Rattle.netlist_store.specs.Building.{first_numbers}
use Rattle.netlist_store.proofs.ShardLaws.{same_is, same_self}

and_left : (a b : Bool) → (a && b) ≡ true → a ≡ true
and_left true b h = refl
and_left false b h = h

and_right : (a b : Bool) → (a && b) ≡ true → b ≡ true
and_right true b h = h
and_right false b h = cc

-- the name of a number is at its place
pub name_in : (names : List (List ℕ)) (n : ℕ) → name_at (map Some names) n ≡ slice_get names n
name_in [] n = refl
name_in (x ∷ xs) zero = refl
name_in (x ∷ xs) (suc n) = name_in xs n

lt_suc : (a b : ℕ) → nat_lt (suc a) (suc b) ≡ nat_lt a b
lt_suc a b = elim (cases_lt a b) [
  | inl h ↦ lt-ltb (suc a) (suc b) (omega (arith, h)) ∙ sym (lt-ltb a b h)
  | inr h ↦ le-ltb (suc a) (suc b) (omega (arith, h)) ∙ sym (le-ltb a b h)
]

pub is_below : {X : Type 0} (xs : List X) (n : ℕ) → is_some (slice_get xs n) ≡ nat_lt n (length xs)
is_below [] n = sym (le-ltb n 0 (omega arith))
is_below (x ∷ xs) zero = sym (lt-ltb 0 (suc (length xs)) (omega arith))
is_below (x ∷ xs) (suc n) = is_below xs n ∙ sym (lt_suc n (length xs))

-- a first place is found where some place passes
first_found : {X : Type 0} (p : X → Bool) (xs : List X) → nat_lt (position_or_len p xs) (length xs) ≡ list_any p xs
first_found p [] = refl
first_found p (x ∷ xs) = elim (cases_Bool (p x)) [
  | inl h ↦ rw h (lt-ltb 0 (suc (length xs)) (omega arith))
  | inr h ↦
      rw h (ap (λ k. nat_lt k (suc (length xs))) (one_up (position_or_len p xs)) ∙ lt_suc (position_or_len p xs) (length xs) ∙ first_found p xs)
]
  where
    one_up : (n : ℕ) → 1 + n ≡ suc n
    one_up n = omega arith

found_if : (b : Bool) (n : ℕ) → is_some (if b then Some n else None) ≡ b
found_if true n = refl
found_if false n = refl

some_found : {X : Type 0} (p : X → Bool) (xs : List X) → is_some (find p xs) ≡ list_any p xs
some_found p [] = refl
some_found p (x ∷ xs) = elim (cases_Bool (p x)) [ inl h ↦ rw h refl | inr h ↦ rw h (some_found p xs) ]

named_list : (names : List (List ℕ)) (q : List ℕ) → list_any (is_named q) (map Some names) ≡ is_listed names q
named_list [] q = refl
named_list (x ∷ xs) q = rw (same-sym x q, named_list xs q) refl

-- the names that are listed have numbers
pub numbers_listed : (names : List (List ℕ)) (q : List ℕ) → is_some (number_of (map Some names) q) ≡ is_listed names q
numbers_listed names q =
    found_if (nat_lt (position_or_len (is_named q) (map Some names)) (length (map Some names))) (position_or_len (is_named q) (map Some names))
    ∙ first_found (is_named q) (map Some names) ∙ named_list names q

pub found_listed : {X : Type 0} (name : X → List ℕ) (xs : List X) (q : List ℕ) → is_some (find (λ x. bytes_eq (name x) q) xs) ≡ is_listed (map name xs) q
found_listed {X} name xs q = some_found (λ x. bytes_eq (name x) q) xs ∙ by xs
  where
    by : (ys : List X) → list_any (λ x. bytes_eq (name x) q) ys ≡ is_listed (map name ys) q
    by [] = refl
    by (y ∷ ys) = rw (same-sym (name y) q, by ys) refl

-- a name that is at a place is listed
pub listed_at : (names : List (List ℕ)) (n : ℕ) (q : List ℕ) → slice_get names n ≡ Some q → is_listed names q ≡ true
listed_at [] n q e = absurd (cc)
listed_at (x ∷ xs) zero q e = let same : x ≡ q = inner e in rw (ap (bytes_eq q) same ∙ same_self q) refl
  where
    inner : Some x ≡ Some q → x ≡ q
    inner h = cc
listed_at (x ∷ xs) (suc n) q e = elim (cases_Bool (bytes_eq q x)) [ inl h ↦ rw h refl | inr h ↦ rw h (listed_at xs n q e) ]

-- names that are distinct stand at one place
pub one_place : (names : List (List ℕ)) (m n : ℕ) (q : List ℕ) → are_distinct names ≡ true → slice_get names m ≡ Some q → slice_get names n ≡ Some q → m ≡ n
one_place [] m n q d e f = absurd (cc)
one_place (x ∷ xs) zero zero q d e f = refl
one_place (x ∷ xs) zero (suc n) q d e f = absurd (twice x xs n q d e f)
  where
    twice : (x : List ℕ) (xs : List (List ℕ)) (n : ℕ) (q : List ℕ) → are_distinct (x ∷ xs) ≡ true → Some x ≡ Some q → slice_get xs n ≡ Some q → ⊥
    twice x xs n q d e f =
        let here : is_listed xs x ≡ true = listed_at xs n x (f ∙ sym e) in
        false≢true (sym (ap not here) ∙ and_left (not (is_listed xs x)) (are_distinct xs) d)
one_place (x ∷ xs) (suc m) zero q d e f = absurd (twice x xs m q d f e)
  where
    twice : (x : List ℕ) (xs : List (List ℕ)) (n : ℕ) (q : List ℕ) → are_distinct (x ∷ xs) ≡ true → Some x ≡ Some q → slice_get xs n ≡ Some q → ⊥
    twice x xs n q d e f =
        let here : is_listed xs x ≡ true = listed_at xs n x (f ∙ sym e) in
        false≢true (sym (ap not here) ∙ and_left (not (is_listed xs x)) (are_distinct xs) d)
one_place (x ∷ xs) (suc m) (suc n) q d e f = ap suc (one_place xs m n q (and_right (not (is_listed xs x)) (are_distinct xs) d) e f)

-- where names are distinct, what has a name is found by it
pub found_at : {X : Type 0} (name : X → List ℕ) (xs : List X) (n : ℕ) (x : X) → are_distinct (map name xs) ≡ true → slice_get xs n ≡ Some x
    → find (λ y. bytes_eq (name y) (name x)) xs ≡ Some x
found_at name [] n x d e = absurd (cc)
found_at name (y ∷ ys) zero x d e = let same : y ≡ x = inner e in rw (ap (λ z. bytes_eq (name z) (name x)) same ∙ same_self (name x)) (ap Some same)
  where
    inner : Some y ≡ Some x → y ≡ x
    inner h = cc
found_at {X} name (y ∷ ys) (suc n) x d e =
    let other : bytes_eq (name y) (name x) ≡ false = elim (cases_Bool (bytes_eq (name y) (name x))) [
      | inl h ↦ absurd (false≢true
          (sym (ap not (ap (is_listed (map name ys)) (same_is (name y) (name x) h) ∙ listed_in ys n e))
          ∙ and_left (not (is_listed (map name ys) (name y))) (are_distinct (map name ys)) d))
      | inr h ↦ h
    ] in
    rw other (found_at name ys n x (and_right (not (is_listed (map name ys) (name y))) (are_distinct (map name ys)) d) e)
  where
    listed_in : (zs : List X) (n : ℕ) → slice_get zs n ≡ Some x → is_listed (map name zs) (name x) ≡ true
    listed_in [] n e = absurd (cc)
    listed_in (z ∷ zs) zero e = let same : z ≡ x = inner e in rw (ap (λ w. bytes_eq (name x) (name w)) same ∙ same_self (name x)) refl
      where
        inner : Some z ≡ Some x → z ≡ x
        inner h = cc
    listed_in (z ∷ zs) (suc n) e = elim (cases_Bool (bytes_eq (name x) (name z))) [ inl h ↦ rw h refl | inr h ↦ rw h (listed_in zs n e) ]

-- the next of distinct names is not among those before it
pub new_behind : (front rest : List (List ℕ)) (name : List ℕ) → are_distinct (front ++ name ∷ rest) ≡ true → is_listed front name ≡ false
new_behind [] rest name d = refl
new_behind (x ∷ xs) rest name d =
    let others = new_behind xs rest name (and_right (not (is_listed (xs ++ name ∷ rest) x)) (are_distinct (xs ++ name ∷ rest)) d) in
    let other : bytes_eq name x ≡ false = elim (cases_Bool (bytes_eq name x)) [
      | inl h ↦ absurd (false≢true
          (sym (ap not (ap (is_listed (xs ++ name ∷ rest)) (sym (same_is name x h)) ∙ within xs))
          ∙ and_left (not (is_listed (xs ++ name ∷ rest) x)) (are_distinct (xs ++ name ∷ rest)) d))
      | inr h ↦ h
    ] in
    rw other others
  where
    within : (ys : List (List ℕ)) → is_listed (ys ++ name ∷ rest) name ≡ true
    within [] = rw (same_self name) refl
    within (y ∷ ys) = elim (cases_Bool (bytes_eq name y)) [ inl h ↦ rw h refl | inr h ↦ rw h (within ys) ]

pub fresh_behind : (names front rest : List (List ℕ)) (name : List ℕ) → are_distinct names ≡ true → names ≡ front ++ name ∷ rest
    → number_of (map Some front) name ≡ None
fresh_behind names front rest name d e =
    none (number_of (map Some front) name) (numbers_listed front name ∙ new_behind front rest name (ap are_distinct (sym e) ∙ d))
  where
    none : (o : Option ℕ) → is_some o ≡ false → o ≡ None
    none None h = refl
    none (Some n) h = absurd (false≢true (sym h))

-- the first numbers
push_any : (n k : ℕ) (xs : List ℕ) → list_any (nat_eq n) (xs ++ k ∷ []) ≡ (list_any (nat_eq n) xs || nat_eq n k)
push_any n k [] = either (nat_eq n k)
  where
    either : (b : Bool) → (b || false) ≡ b
    either true = refl
    either false = refl
push_any n k (x ∷ xs) = elim (cases_Bool (nat_eq n x)) [ inl h ↦ rw h refl | inr h ↦ rw h (push_any n k xs) ]

one_more : (k n : ℕ) → (nat_lt n k || nat_eq n k) ≡ nat_lt n (suc k)
one_more k n = elim (cases_lt n k) [
  | inl h ↦ rw (lt-ltb n k h, lt-ltb n (suc k) (omega (arith, h))) refl
  | inr h ↦
      elim (eqb_tells n k) [
        | inl e ↦ rw (le-ltb n k h, e.0, lt-ltb n (suc k) (omega (arith, e.1))) refl
        | inr e ↦ rw (le-ltb n k h, e.0, le-ltb n (suc k) (above e.1 h)) refl
      ]
]
  where
    above : n ≢ k → k ≤ n → suc k ≤ n
    above apart low = elim (cases_lt k n) [ inl g ↦ omega (arith, g) | inr g ↦ absurd (apart (omega (arith, g, low))) ]

pub first_below : (k n : ℕ) → list_any (nat_eq n) (first_numbers k) ≡ nat_lt n k
first_below zero n = sym (le-ltb n 0 (omega arith))
first_below (suc k) n = push_any n k (first_numbers k) ∙ ap (λ b. b || nat_eq n k) (first_below k n) ∙ one_more k n

pub first_new : (k : ℕ) → list_any (nat_eq k) (first_numbers k) ≡ false
first_new k = first_below k k ∙ le-ltb k k (omega arith)

-- a list is what a table has at the first numbers
abbrev one_of : {X : Type 0} → Option X → List X
one_of None = []
one_of (Some x) = x ∷ []

take_next : {X : Type 0} (xs : List X) (k : ℕ) → take (suc k) xs ≡ take k xs ++ one_of (slice_get xs k)
take_next [] zero = refl
take_next [] (suc k) = refl
take_next (x ∷ xs) zero = refl
take_next (x ∷ xs) (suc k) = ap (λ ys. x ∷ ys) (take_next xs k)

one_row : {X : Type 0} (look : ℕ → Option X) (k : ℕ) → filter_map look (k ∷ []) ≡ one_of (look k)
one_row {X} look k = by (look k) refl
  where
    by : (o : Option X) → look k ≡ o → filter_map look (k ∷ []) ≡ one_of o
    by None e = rw e refl
    by (Some x) e = rw e refl

first_rows : {X : Type 0} (look : ℕ → Option X) (xs : List X) (k : ℕ) → ((n : ℕ) → look n ≡ slice_get xs n) → filter_map look (first_numbers k) ≡ take k xs
first_rows look xs zero same = refl
first_rows look xs (suc k) same =
    filter_map-append look (first_numbers k) (k ∷ [])
    ∙ ap (λ ys. ys ++ filter_map look (k ∷ [])) (first_rows look xs k same)
    ∙ ap (λ ys. take k xs ++ ys) (one_row look k ∙ ap one_of (same k))
    ∙ sym (take_next xs k)

pub all_rows : {X : Type 0} (look : ℕ → Option X) (xs : List X) (k : ℕ) → k ≡ length xs → ((n : ℕ) → look n ≡ slice_get xs n) → filter_map look (first_numbers k) ≡ xs
all_rows look xs k e same = first_rows look xs k same ∙ take_all k xs (omega (arith, e))
