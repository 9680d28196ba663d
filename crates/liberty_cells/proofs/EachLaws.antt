-- What holds for each item of a list.
use Rattle.std.proofs.Common.{◌≡◌, ◌≤◌, List, [], ◌∷◌, ◌++◌, Bool, true, false, map, length, cond, refl, ap, ◌∙◌, arith}
use Rattle.std.specs.Prelude.{Option, Some, None}
use Rattle.std.specs.List.{list_all, flat_map, filter, last_or}
use Rattle.std.proofs.lemmas.Bool.{cond_both, and_parts, and_from}
use Rattle.std.proofs.lemmas.List.Folds.{list_all-append}
use Rattle.liberty_cells.specs.Statements.{last}

abbrev pub Each : {X : Type 0} → (X → Type 0) → List X → Type 0
Each P [] = Unit {0}
Each P (x ∷ xs) = P x × Each P xs

pub each_append : {X : Type 0} (P : X → Type 0) (xs ys : List X) → Each P xs → Each P ys → Each P (xs ++ ys)
each_append P [] ys h k = k
each_append P (x ∷ xs) ys h k = (h.0, each_append P xs ys h.1 k)

pub each_more : {X : Type 0} (P Q : X → Type 0) → ((x : X) → P x → Q x) → (xs : List X) → Each P xs → Each Q xs
each_more P Q f [] h = tt
each_more P Q f (x ∷ xs) h = (f x h.0, each_more P Q f xs h.1)

pub each_any : {X : Type 0} (P : X → Type 0) → ((x : X) → P x) → (xs : List X) → Each P xs
each_any P f [] = tt
each_any P f (x ∷ xs) = (f x, each_any P f xs)

pub each_flat : {X Y : Type 0} (P : X → Type 0) (Q : Y → Type 0) (f : X → List Y) → ((x : X) → P x → Each Q (f x)) → (xs : List X) → Each P xs → Each Q (flat_map f xs)
each_flat P Q f step [] h = tt
each_flat P Q f step (x ∷ xs) h = each_append Q (f x) (flat_map f xs) (step x h.0) (each_flat P Q f step xs h.1)

pub each_map : {X Y : Type 0} (P : X → Type 0) (Q : Y → Type 0) (f : X → Y) → ((x : X) → P x → Q (f x)) → (xs : List X) → Each P xs → Each Q (map f xs)
each_map P Q f step [] h = tt
each_map P Q f step (x ∷ xs) h = (step x h.0, each_map P Q f step xs h.1)

-- what a filter keeps passes its test
pub each_passed : {X : Type 0} (test : X → Bool) (xs : List X) → Each (λ x. test x ≡ true) (filter test xs)
each_passed test [] = tt
each_passed test (x ∷ xs) =
    cond_both (test x) (x ∷ filter test xs) (filter test xs) (Each (λ x. test x ≡ true))
    (λ e. (e, each_passed test xs)) (λ _. each_passed test xs)

pub each_kept : {X : Type 0} (P : X → Type 0) (test : X → Bool) (xs : List X) → Each P xs → Each P (filter test xs)
each_kept P test [] h = tt
each_kept P test (x ∷ xs) h =
    cond_both (test x) (x ∷ filter test xs) (filter test xs) (Each P)
    (λ e. (h.0, each_kept P test xs h.1)) (λ _. each_kept P test xs h.1)

pub each_both : {X : Type 0} (P Q : X → Type 0) (xs : List X) → Each P xs → Each Q xs → Each (λ x. P x × Q x) xs
each_both P Q [] h k = tt
each_both P Q (x ∷ xs) h k = ((h.0, k.0), each_both P Q xs h.1 k.1)

pub each_test : {X : Type 0} (test : X → Bool) (xs : List X) → list_all test xs ≡ true → Each (λ x. test x ≡ true) xs
each_test test [] h = tt
each_test test (x ∷ xs) h = let both = and_parts (test x) (list_all test xs) h in (both.0, each_test test xs both.1)

pub test_each : {X : Type 0} (test : X → Bool) (xs : List X) → Each (λ x. test x ≡ true) xs → list_all test xs ≡ true
test_each test [] h = refl
test_each test (x ∷ xs) h = and_from (test x) (list_all test xs) h.0 (test_each test xs h.1)

pub parts_none : {X : Type 0} (xs ys : List X) → xs ++ ys ≡ [] → (xs ≡ []) × (ys ≡ [])
parts_none [] ys h = (refl, h)
parts_none (x ∷ xs) ys h = absurd (cc)

-- where lists joined are empty each is
pub each_none : {X Y : Type 0} (f : X → List Y) (xs : List X) → flat_map f xs ≡ [] → Each (λ x. f x ≡ []) xs
each_none f [] h = tt
each_none f (x ∷ xs) h = let both = parts_none (f x) (flat_map f xs) h in (both.0, each_none f xs both.1)

pub all_map : {X Y : Type 0} (test : Y → Bool) (f : X → Y) → ((x : X) → test (f x) ≡ true) → (xs : List X) → list_all test (map f xs) ≡ true
all_map test f h [] = refl
all_map test f h (x ∷ xs) = and_from (test (f x)) (list_all test (map f xs)) (h x) (all_map test f h xs)

pub all_flat : {X Y : Type 0} (test : Y → Bool) (f : X → List Y) → ((x : X) → list_all test (f x) ≡ true) → (xs : List X) → list_all test (flat_map f xs) ≡ true
all_flat test f h [] = refl
all_flat test f h (x ∷ xs) =
    list_all-append test (f x) (flat_map f xs)
    ∙ and_from (list_all test (f x)) (list_all test (flat_map f xs)) (h x) (all_flat test f h xs)

pub map_append : {X Y : Type 0} (f : X → Y) (xs ys : List X) → map f (xs ++ ys) ≡ map f xs ++ map f ys
map_append f [] ys = refl
map_append f (x ∷ xs) ys = ap (λ rest. f x ∷ rest) (map_append f xs ys)

-- no more are kept than there are
pub fewer : {X : Type 0} (test : X → Bool) (xs : List X) → length (filter test xs) ≤ length xs
fewer test [] = omega arith
fewer test (x ∷ xs) =
    cond_both (test x) (x ∷ filter test xs) (filter test xs) (λ ys. length ys ≤ length (x ∷ xs))
    (λ _. let h = fewer test xs in omega (arith, h)) (λ _. let h = fewer test xs in omega (arith, h))

pub same_length : {X Y : Type 0} (f : X → Y) (xs : List X) → length (map f xs) ≡ length xs
same_length f [] = refl
same_length f (x ∷ xs) = let h = same_length f xs in omega (arith, h)

pub filter_append : {X : Type 0} (test : X → Bool) (xs ys : List X) → filter test (xs ++ ys) ≡ filter test xs ++ filter test ys
filter_append test [] ys = refl
filter_append test (x ∷ xs) ys = by_cases (test x) (filter_append test xs ys)
  where
    by_cases : (b : Bool) → filter test (xs ++ ys) ≡ filter test xs ++ filter test ys → cond b (x ∷ filter test (xs ++ ys)) (filter test (xs ++ ys)) ≡ cond b (x ∷ filter test xs) (filter test xs) ++ filter test ys
    by_cases true e = ap (λ rest. x ∷ rest) e
    by_cases false e = e

-- what holds for each item holds for the last one
abbrev pub IfLast : {X : Type 0} → (X → Type 0) → Option X → Type 0
IfLast P None = Unit {0}
IfLast P (Some x) = P x

last_from : {X : Type 0} (P : X → Type 0) (found : Option X) (xs : List X) → IfLast P found → Each P xs → IfLast P (last_or found xs)
last_from P found [] h hs = h
last_from P found (x ∷ xs) h hs = last_from P (Some x) xs hs.0 hs.1

pub each_last : {X : Type 0} (P : X → Type 0) (xs : List X) → Each P xs → IfLast P (last xs)
each_last P xs h = last_from P None xs tt h

pub each_flat_any : {X Y : Type 0} (Q : Y → Type 0) (f : X → List Y) → ((x : X) → Each Q (f x)) → (xs : List X) → Each Q (flat_map f xs)
each_flat_any Q f step [] = tt
each_flat_any Q f step (x ∷ xs) = each_append Q (f x) (flat_map f xs) (step x) (each_flat_any Q f step xs)

pub each_map_any : {X Y : Type 0} (Q : Y → Type 0) (f : X → Y) → ((x : X) → Q (f x)) → (xs : List X) → Each Q (map f xs)
each_map_any Q f step [] = tt
each_map_any Q f step (x ∷ xs) = (step x, each_map_any Q f step xs)
