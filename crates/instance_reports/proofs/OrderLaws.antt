-- A sorted list of rows of distinct names is all that there are, where its rows are those.

use Rattle.std.proofs.Common.{◌≡◌, ℕ, suc, ◌+◌, true, false, not, List, [], ◌∷◌, map, get_or, refl, sym, ap, subst, ◌∙◌, inl, inr, arith}
use Rattle.std.specs.Prelude.{◌≢◌, Contains}
use Rattle.std.specs.List.{IsDistinct, AllByRecursion}
use Rattle.std.specs.List.Sorted.{IsPermutation, IsSortedBy}
use Rattle.std.specs.Cmp.{IsStrictWeakOrder}
use Rattle.std.specs.Ordering.{nat_cmp, is_lt, ordering_reverse}
use Rattle.std.specs.declared.cmp.Ordering.{Ordering}
use Rattle.std.specs.declared.cmp.Ordering.TheVariants.{Less, Equal, Greater}
use Rattle.std.specs.Cmp.Lexicographic.{slice_cmp}
use Rattle.std.specs.Str.{bytes_eq}
use Rattle.std.proofs.lemmas.Bool.{false≢true, and_parts, and_from, or_parts, or_from, not-true, not_from_false}
use Rattle.std.proofs.lemmas.Cmp.{nat_list_cmp_total}
use Rattle.std.proofs.lemmas.List.Sorted.{ranks_by, sorted_far, Contains-permutation, IsPermutation-sym, IsPermutation-map}
use Rattle.std.proofs.lemmas.Map.Lookups.{exact_bytes}
use Rattle.std.proofs.lemmas.Map.Keys.{IsDistinct-head, IsDistinct-tail, IsDistinct-cons, IsDistinct-IsPermutation}
use Rattle.timing_defs.specs.Firsts.{AreAll}
use Rattle.timing_defs.specs.Netlist.{is_listed, are_distinct}
use Rattle.timing_defs.specs.NetChecks.{is_before}
use Rattle.timing_defs.proofs.SameNames.{same-sym}
use Rattle.timing_defs.proofs.Members.{none_in, first_in, later_in, in_cases, listed_in}
use Rattle.instance_reports.specs.Orders.{by_name, AreInOrder}

module _ {X : Type 0} (name : X → List ℕ) where
  pub orders : IsStrictWeakOrder (by_name name)
  orders = ranks_by nat_list_cmp_total name

  -- no later row has the name of an earlier one
  pub other_names : (x : X) (xs : List X) → are_distinct (map name (x ∷ xs)) ≡ true → (y : X) → Contains xs y → y ≢ x
  other_names x xs apart y c same =
      let parts = and_parts (not (is_listed (map name xs) (name x))) (are_distinct (map name xs)) apart in
      let twice : is_listed (map name xs) (name x) ≡ true = ap (λ z. is_listed (map name xs) (name z)) (sym same) ∙ listed_in name xs y c in
      false≢true (sym (not-true (is_listed (map name xs) (name x)) parts.0) ∙ twice)

  up_behind : (x : X) (xs : List X) → IsSortedBy (by_name name) (x ∷ xs) → IsSortedBy (by_name name) xs
  up_behind x xs up k d low high =
      let one : suc k + 1 ≡ suc (k + 1) = omega arith in
      subst (λ (n : ℕ). by_name name (get_or (x ∷ xs) n d) (get_or xs k d) ≡ false) one (up (suc k) d (omega arith) (omega arith))

  least_first : (x : X) (xs : List X) → IsSortedBy (by_name name) (x ∷ xs) → (y : X) → Contains (x ∷ xs) y → by_name name y x ≡ false
  least_first x xs up y c =
      subst (λ (z : X). by_name name z x ≡ false) c.2 (sorted_far (by_name name) orders (x ∷ xs) up 0 c.0 y (omega arith) c.1)

  -- a sorted list of all that there are
  pub all_sorted : (Is : X → Type 0) (xs : List X) → IsSortedBy (by_name name) xs → are_distinct (map name xs) ≡ true
      → ((y : X) → Is y → Contains xs y) → ((y : X) → Contains xs y → Is y) → AreAll (by_name name) Is xs
  all_sorted Is [] up apart within is = λ y h. none_in y (within y h)
  all_sorted Is (x ∷ xs) up apart within is = (
    is x (first_in x xs),
    λ y h. least_first x xs up y (within y h),
    all_sorted (λ y. Is y × (y ≢ x)) xs (up_behind x xs up)
        (and_parts (not (is_listed (map name xs) (name x))) (are_distinct (map name xs)) apart).1
        behind
        (λ y c. (is y (later_in x xs y c), other_names x xs apart y c)),
  )
    where
      behind : (y : X) → Is y × (y ≢ x) → Contains xs y
      behind y (h, other) = elim (in_cases x xs y (within y h)) [
        | inl e ↦ absurd (other (sym e))
        | inr c ↦ c
      ]

-- names are distinct in any order
none_apart : IsDistinct bytes_eq []
unfolding IsDistinct
none_apart = tt

to_distinct : (names : List (List ℕ)) → are_distinct names ≡ true → IsDistinct bytes_eq names
to_distinct [] apart = none_apart
to_distinct (n ∷ ns) apart =
    let parts = and_parts (not (is_listed ns n)) (are_distinct ns) apart in
    IsDistinct-cons bytes_eq n ns (each ns (not-true (is_listed ns n) parts.0)) (to_distinct ns parts.1)
  where
    each : (ms : List (List ℕ)) → is_listed ms n ≡ false → AllByRecursion (λ m. bytes_eq n m ≡ false) ms
    each [] h = tt
    each (m ∷ ms) h = let parts = or_parts (bytes_eq n m) (is_listed ms n) h in (parts.0, each ms parts.1)

from_distinct : (names : List (List ℕ)) → IsDistinct bytes_eq names → are_distinct names ≡ true
from_distinct [] apart = refl
from_distinct (n ∷ ns) apart =
    and_from (not (is_listed ns n)) (are_distinct ns)
    (not_from_false (is_listed ns n) (none ns (IsDistinct-head bytes_eq n ns apart)))
    (from_distinct ns (IsDistinct-tail bytes_eq n ns apart))
  where
    none : (ms : List (List ℕ)) → AllByRecursion (λ m. bytes_eq n m ≡ false) ms → is_listed ms n ≡ false
    none [] h = refl
    none (m ∷ ms) h = or_from (bytes_eq n m) (is_listed ms n) h.0 (none ms h.1)

pub distinct_moved : {X : Type 0} (name : X → List ℕ) (xs ys : List X) → IsPermutation xs ys → are_distinct (map name xs) ≡ true
    → are_distinct (map name ys) ≡ true
distinct_moved name xs ys same apart =
    from_distinct (map name ys)
    (IsDistinct-IsPermutation bytes_eq same-sym (map name xs) (map name ys) (IsPermutation-map name xs ys same) (to_distinct (map name xs) apart))

-- rows of distinct names in their order are all that there are, where the rows are those
pub all_in_order : {X : Type 0} (name : X → List ℕ) (Is : X → Type 0) (xs ys : List X) → AreInOrder name xs ys
    → are_distinct (map name xs) ≡ true → ((y : X) → Is y → Contains xs y) → ((y : X) → Contains xs y → Is y) → AreAll (by_name name) Is ys
all_in_order name Is xs ys order apart within is =
    all_sorted name Is ys order.up (distinct_moved name xs ys order.same apart)
    (λ y h. Contains-permutation xs ys y order.same (within y h))
    (λ y c. is y (Contains-permutation ys xs y (IsPermutation-sym xs ys order.same) c))

-- two names of which neither comes before the other are the same
same_place : (a b : List ℕ) → is_before a b ≡ false → is_before b a ≡ false → a ≡ b
same_place a b h k = by (slice_cmp nat_cmp a b) refl
  where
    by : (o : Ordering) → slice_cmp nat_cmp a b ≡ o → a ≡ b
    by Less e = let bad : true ≡ false = sym (ap is_lt e) ∙ h in absurd (cc)
    by Equal e = exact_bytes a b e
    by Greater e =
        let bad : true ≡ false = sym (ap is_lt (nat_list_cmp_total.antisymm b a ∙ ap ordering_reverse e)) ∙ k in absurd (cc)

-- all that there are stand in one order, where rows of one name are the same
pub all_same : {X : Type 0} (name : X → List ℕ) (Is : X → Type 0) → ((x y : X) → Is x → Is y → name x ≡ name y → x ≡ y)
    → (xs ys : List X) → AreAll (by_name name) Is xs → AreAll (by_name name) Is ys → xs ≡ ys
all_same name Is one [] [] all most = refl
all_same name Is one [] (y ∷ ys) none (is, low, rest) = absurd (none y is)
all_same name Is one (x ∷ xs) [] (is, low, rest) none = absurd (none x is)
all_same {X} name Is one (x ∷ xs) (y ∷ ys) (is, low, rest) (is2, low2, rest2) =
    let same : x ≡ y = one x y is is2 (same_place (name x) (name y) (low2 x is) (low y is2)) in
    let others : xs ≡ ys =
    all_same name (λ (z : X). Is z × (z ≢ x)) (λ z w h k. one z w h.0 k.0) xs ys rest
    (subst (λ (v : X). AreAll (by_name name) (λ (z : X). Is z × (z ≢ v)) ys) (sym same) rest2) in
    λ i. same i ∷ others i

-- rows that are sorted in place
pub sorted_rows : {X : Type 0} (name : X → List ℕ) (rows old new sorted : List X) → old ≡ rows → IsPermutation old new
    → IsSortedBy (by_name name) new → sorted ≡ new → AreInOrder name rows sorted
sorted_rows {X} name rows old new sorted was same up is =
    subst (λ (xs : List X). AreInOrder name rows xs) (sym is)
    (record { same = subst (λ (xs : List X). IsPermutation xs new) was same; up = up })
