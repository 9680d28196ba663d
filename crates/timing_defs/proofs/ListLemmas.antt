-- Facts of lists and tests that engines need and std lacks, over plain variables.
use Rattle.std.specs.Prelude.{◌≡◌, ℕ, ◌+◌, ◌-◌, ◌≤◌, Bool, true, false, ◌&&◌, ◌||◌, cond, List, [], ◌∷◌, ◌++◌, map, filter, take, drop}
use Rattle.std.specs.List.{list_any, list_all, count_by, slice_range, All, Any}
use Rattle.std.specs.Cmp.{both_ways}
use Rattle.std.proofs.Common.{arith}
use Rattle.std.proofs.Math.Path.{refl, sym, ap, subst, ◌∙◌}
use Rattle.std.proofs.lemmas.List.Sums.{sum_by-cons}
use Rattle.std.proofs.lemmas.List.Elements.{All-head, All-tail}
use Rattle.std.proofs.lemmas.List.Folds.{Any-from_list_any, list_any-from_Any}
use Rattle.std.proofs.lemmas.List.{take-append-drop, take-take, drop-take}

pub bool_iff : (a b : Bool) → (a ≡ true → b ≡ true) → (b ≡ true → a ≡ true) → a ≡ b
bool_iff a b there back = both_ways a b there back

-- Two tests that agree on each element give the same answer.
module _ {X : Type 0} (p q : X → Bool) where
  pub list_any_agree : (xs : List X) → All (λ x. p x ≡ q x) xs → list_any p xs ≡ list_any q xs
  list_any_agree [] alike = refl
  list_any_agree (x ∷ xs) alike =
      rw (All-head (λ y. p y ≡ q y) x xs alike, list_any_agree xs (All-tail (λ y. p y ≡ q y) x xs alike)) refl

  pub list_all_agree : (xs : List X) → All (λ x. p x ≡ q x) xs → list_all p xs ≡ list_all q xs
  list_all_agree [] alike = refl
  list_all_agree (x ∷ xs) alike =
      rw (All-head (λ y. p y ≡ q y) x xs alike, list_all_agree xs (All-tail (λ y. p y ≡ q y) x xs alike)) refl

  pub count_by_agree : (xs : List X) → All (λ x. p x ≡ q x) xs → count_by p xs ≡ count_by q xs
  count_by_agree [] alike = refl
  count_by_agree (x ∷ xs) alike =
      sum_by-cons (λ y. cond (p y) 1 0) x xs
      ∙ ap (λ (b : Bool). cond b 1 0 + count_by p xs) (All-head (λ y. p y ≡ q y) x xs alike)
      ∙ ap (λ (n : ℕ). cond (q x) 1 0 + n) (count_by_agree xs (All-tail (λ y. p y ≡ q y) x xs alike))
      ∙ sym (sum_by-cons (λ y. cond (q y) 1 0) x xs)

or_swap : (a b c d : Bool) → ((a || b) || (c || d)) ≡ ((a || c) || (b || d))
or_swap true b c d = refl
or_swap false true true d = refl
or_swap false true false d = refl
or_swap false false c d = refl

pub list_any_either : {X : Type 0} (p q : X → Bool) (xs : List X) → list_any (λ x. p x || q x) xs ≡ (list_any p xs || list_any q xs)
list_any_either p q [] = refl
list_any_either p q (x ∷ xs) = rw (list_any_either p q xs) (or_swap (p x) (q x) (list_any p xs) (list_any q xs))

pub list_any_map : {X Y : Type 0} (p : Y → Bool) (f : X → Y) (xs : List X) → list_any p (map f xs) ≡ list_any (λ x. p (f x)) xs
list_any_map p f [] = refl
list_any_map p f (x ∷ xs) = rw (list_any_map p f xs) refl

kept : (a b c : Bool) {X : Type 0} (p : X → Bool) (x : X) (xs : List X) → p x ≡ b → list_any p xs ≡ c → list_any p (cond a (x ∷ xs) xs) ≡ ((a && b) || c)
kept true b c p x xs here there = rw (here, there) refl
kept false b c p x xs here there = there

pub list_any_filter : {X : Type 0} (p q : X → Bool) (xs : List X) → list_any p (filter q xs) ≡ list_any (λ x. q x && p x) xs
list_any_filter p q [] = refl
list_any_filter p q (x ∷ xs) = kept (q x) (p x) (list_any (λ y. q y && p y) xs) p x (filter q xs) refl (list_any_filter p q xs)

-- Where the answer is true some element passes, and the other way round.
pub list_any_found : {X : Type 0} (p : X → Bool) (xs : List X) → list_any p xs ≡ true → Any (λ x. p x ≡ true) xs
list_any_found p xs told = Any-from_list_any p xs told

pub list_any_from : {X : Type 0} (p : X → Bool) (xs : List X) → Any (λ x. p x ≡ true) xs → list_any p xs ≡ true
list_any_from p xs found = list_any-from_Any p xs found

-- The first j elements are the first i and the range behind them.
pub take_range : {X : Type 0} (i j : ℕ) (xs : List X) → i ≤ j → take j xs ≡ take i xs ++ slice_range xs i j
take_range i j xs within =
    let room : i + (j - i) ≡ j = omega arith in
    let parts : take i (take j xs) ++ drop i (take j xs) ≡ take j xs = take-append-drop i (take j xs) in
    let front : take i (take j xs) ≡ take i xs = take-take i j xs within in
    let back : drop i (take (i + (j - i)) xs) ≡ take (j - i) (drop i xs) = drop-take i (j - i) xs in
    let behind : drop i (take j xs) ≡ take (j - i) (drop i xs) = subst (λ n. drop i (take n xs) ≡ take (j - i) (drop i xs)) room back in
    sym parts ∙ ap (λ ys. ys ++ drop i (take j xs)) front ∙ ap (λ ys. take i xs ++ ys) behind
