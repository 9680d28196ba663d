-- Items with numbers, some of them found again, put in the order of their numbers.

use Rattle.std.proofs.Common.{◌≡◌, ◌⊎◌, ℕ, zero, suc, ◌<◌, ◌≤◌, Bool, true, false, List, [], ◌∷◌, ◌++◌, map, filter, get_or, Option, None, Some, refl, sym, ap, subst, ◌∙◌, inl, inr, arith}
use Rattle.std.specs.Prelude.{nat_eq, Contains, if◌then◌else◌}
use Rattle.std.specs.List.{filter_map, range_with_len, IsDistinct, AllByRecursion}
use Rattle.std.specs.List.Sorted.{IsPermutation, IsNonDecreasingBy}
use Rattle.std.proofs.lemmas.Bool.{cases_Bool, false≢true, eq-eqb, eqb-true, both_ways}
use Rattle.std.proofs.lemmas.Cmp.{nat_eq_equiv}
use Rattle.std.proofs.lemmas.List.Elements.{Contains-append_cases, Contains-append_left, Contains-append_right}
use Rattle.std.proofs.lemmas.List.Sorted.{IsPermutation-sym, IsPermutation-map, Contains-permutation}
use Rattle.std.proofs.lemmas.Map.Keys.{IsDistinct-tail, IsDistinct-IsPermutation, apart_from_distinct}
use Rattle.level_workers.specs.Mapped.{IsMap}
use Rattle.timing_defs.proofs.Members.{some_is, none_in, in_cases, first_in, later_in, any_in, any_back, in_map, in_map_back, in_filter, passes_in, in_filter_map, in_filter_map_back, number_in}
use Rattle.edit_reach.specs.Reach.{is_in}
use Rattle.affected_cone.proofs.MapLaws.{item_of, result_of}
use Rattle.affected_cone.proofs.RisingLists.{Rises, rises}

-- numbers of which none stands twice
abbrev Apart : List ℕ → Type 0
Apart [] = Unit {0}
Apart (x ∷ xs) = (Contains xs x → ⊥) × Apart xs

apart_rising : (xs : List ℕ) → Rises xs → Apart xs
apart_rising [] r = tt
apart_rising (x ∷ xs) r = ((λ c. let low = r.0 x c in omega (arith, low)), apart_rising xs r.1)

apart_distinct : (xs : List ℕ) → IsDistinct nat_eq xs → Apart xs
apart_distinct [] d = tt
apart_distinct (x ∷ xs) d = (
  (λ c.
      let low = c.1 in
      both_ways (nat_eq x (get_or xs c.0 x)) (apart_from_distinct nat_eq (x ∷ xs) 0 (suc c.0) x d (omega arith) (omega (arith, low))) (eq-eqb x (get_or xs c.0 x) (sym c.2))),
  apart_distinct xs (IsDistinct-tail nat_eq x xs d),
)

apart_both : (xs ys : List ℕ) → Apart xs → Apart ys → ((n : ℕ) → Contains xs n → Contains ys n → ⊥) → Apart (xs ++ ys)
apart_both [] ys a b other = b
apart_both (x ∷ xs) ys a b other = (
  (λ c. elim (Contains-append_cases xs ys x c) [ inl h ↦ a.0 h | inr h ↦ other x (first_in x xs) h ]),
  apart_both xs ys a.1 b (λ n h k. other n (later_in x xs n h) k),
)

none_same : (x : ℕ) (xs : List ℕ) → (Contains xs x → ⊥) → AllByRecursion (λ y. nat_eq x y ≡ false) xs
none_same x [] h = tt
none_same x (y ∷ ys) h = (
  elim (cases_Bool (nat_eq x y)) [ inl e ↦ absurd (h (subst (Contains (y ∷ ys)) (sym (eqb-true x y e)) (first_in y ys))) | inr e ↦ e ],
  none_same x ys (λ c. h (later_in y ys x c)),
)

distinct_apart : (xs : List ℕ) → Apart xs → IsDistinct nat_eq xs
unfolding IsDistinct
distinct_apart [] a = tt
distinct_apart (x ∷ xs) a = (none_same x xs a.0, distinct_apart xs a.1)

-- a part of the items
module _ {X : Type 0} (f : X → Option X) (key : X → ℕ) (same : (x y : X) → f x ≡ Some y → x ≡ y) where
  part_in : (xs : List X) (y : X) → Contains (filter_map f xs) y → Contains xs y
  part_in xs y c = let m = in_filter_map_back f xs y c in subst (Contains xs) (same m.item y m.same) m.within

  part_passes : (xs : List X) (y : X) → Contains (filter_map f xs) y → f y ≡ Some y
  part_passes xs y c = let m = in_filter_map_back f xs y c in ap f (sym (same m.item y m.same)) ∙ m.same

  part_apart : (xs : List X) → Apart (map key xs) → Apart (map key (filter_map f xs))
  part_apart [] a = tt
  part_apart (x ∷ xs) a = by (part_apart xs a.1) (f x) refl
    where
      by : Apart (map key (filter_map f xs)) → (o : Option X) → f x ≡ o → Apart (map key (filter_map f (x ∷ xs)))
      by rest None e = rw e rest
      by rest (Some y) e =
          rw e (
            (λ c.
                let m = in_map_back key (filter_map f xs) (key y) c in
                a.0 (subst (Contains (map key xs)) (m.same ∙ ap key (sym (same x y e))) (in_map key xs m.item (part_in xs m.item m.within)))),
            rest,
          )

-- lists that rise and have the same numbers are one
one_rising : (xs ys : List ℕ) → Rises xs → Rises ys → ((n : ℕ) → Contains xs n → Contains ys n) → ((n : ℕ) → Contains ys n → Contains xs n) → xs ≡ ys
one_rising [] [] r s to back = refl
one_rising [] (y ∷ ys) r s to back = absurd (none_in y (back y (first_in y ys)))
one_rising (x ∷ xs) [] r s to back = absurd (none_in x (to x (first_in x xs)))
one_rising (x ∷ xs) (y ∷ ys) r s to back =
    let same : x ≡ y = heads (in_cases y ys x (to x (first_in x xs))) (in_cases x xs y (back y (first_in y ys))) in
    ap (λ n. n ∷ xs) same ∙ ap (λ ns. y ∷ ns) (one_rising xs ys r.1 s.1 (later same) (earlier same))
  where
    heads : (y ≡ x) ⊎ Contains ys x → (x ≡ y) ⊎ Contains xs y → x ≡ y
    heads (inl e) o = sym e
    heads (inr c) (inl e) = e
    heads (inr c) (inr d) = let a = s.0 x c in let b = r.0 y d in absurd (omega (arith, a, b))

    later : x ≡ y → (n : ℕ) → Contains xs n → Contains ys n
    later same n c = elim (in_cases y ys n (to n (later_in x xs n c))) [
      | inl e ↦ let low = r.0 n c in absurd (omega (arith, low, e, same))
      | inr d ↦ d
    ]

    earlier : x ≡ y → (n : ℕ) → Contains ys n → Contains xs n
    earlier same n c = elim (in_cases x xs n (back n (later_in y ys n c))) [
      | inl e ↦ let low = s.0 n c in absurd (omega (arith, low, e, same))
      | inr d ↦ d
    ]

module _ {E : Type 0} (key : E → ℕ) where
  -- items in the order of their numbers, of which none stands twice
  rises_by : (es : List E) → IsNonDecreasingBy key es → IsDistinct nat_eq (map key es) → Rises (map key es)
  rises_by [] up d = tt
  rises_by (e ∷ es) up d = (
    (λ y c.
        let m = in_map_back key es y c in
        let low = m.within.1 in
        let low2 = c.1 in
        let over : key e ≤ key (get_or es m.within.0 m.item) = up 0 (suc m.within.0) m.item (omega arith) (omega (arith, low)) in
        let it : key (get_or es m.within.0 m.item) ≡ y = ap key m.within.2 ∙ m.same in
        let off : nat_eq (key e) (get_or (map key es) c.0 y) ≡ false = apart_from_distinct nat_eq (key e ∷ map key es) 0 (suc c.0) y d (omega arith) (omega (arith, low2)) in
        let other : key e ≡ y → ⊥ = (λ s. both_ways (nat_eq (key e) (get_or (map key es) c.0 y)) off (eq-eqb (key e) (get_or (map key es) c.0 y) (s ∙ sym c.2))) in
        elim (under (key e) y (omega (arith, over, it))) [ inl l ↦ l | inr s ↦ absurd (other s) ]),
    rises_by es (λ i j dd a b. up (suc i) (suc j) dd (omega (arith, a)) (omega (arith, b))) (IsDistinct-tail nat_eq (key e) (map key es) d),
  )
    where
      under : (a b : ℕ) → a ≤ b → (a < b) ⊎ (a ≡ b)
      under zero zero l = inr refl
      under zero (suc b) l = inl (omega arith)
      under (suc a) zero l = absurd (omega (arith, l))
      under (suc a) (suc b) l = elim (under a b (omega (arith, l))) [ inl h ↦ inl (omega (arith, h)) | inr h ↦ inr (ap suc h) ]

  -- each item is that of its number
  each_map : (Held : ℕ → E → Type 0) (es : List E) → ((e : E) → Contains es e → Held (key e) e) → IsMap Held (map key es) es
  each_map Held [] h = tt
  each_map Held (e ∷ es) h = (h e (first_in e es), each_map Held es (λ x c. h x (later_in e es x c)))

  keys_are : (Held : ℕ → E → Type 0) → ((n : ℕ) (e : E) → Held n e → key e ≡ n) → (ns : List ℕ) (es : List E) → IsMap Held ns es → map key es ≡ ns
  keys_are Held keyed [] [] m = refl
  keys_are Held keyed [] (e ∷ es) m = absurd m
  keys_are Held keyed (n ∷ ns) [] m = absurd m
  keys_are Held keyed (n ∷ ns) (e ∷ es) m = λ k. keyed n e m.0 k ∷ keys_are Held keyed ns es m.1 k

-- what two versions say of a number
pub record AreNumbered {E : Type 0} (key : E → ℕ) (Held : ℕ → E → Type 0) (p : ℕ → Bool) (n : ℕ) : Type 0 where
  pub keyed : (k : ℕ) (e : E) → Held k e → key e ≡ k
  pub low : (k : ℕ) → p k ≡ true → k < n

module _ {E : Type 0} (key : E → ℕ) (Held Holds : ℕ → E → Type 0) (p p2 : ℕ → Bool) (len len2 : ℕ) (old : AreNumbered key Held p len) (new : AreNumbered key Holds p2 len2)
    (there : ℕ → Bool) (known : (n : ℕ) → p2 n ≡ true → there n ≡ true) (dirty : List ℕ)
    (left : (n : ℕ) → p n ≡ true → is_in dirty n ≡ false → there n ≡ true)
    (end : (n : ℕ) → there n ≡ true → is_in dirty n ≡ false → p2 n ≡ p n)
    (moves : (n : ℕ) (e : E) → p2 n ≡ true → is_in dirty n ≡ false → Held n e → Holds n e) where
  abbrev kept : E → Option E
  kept e = (if is_in dirty (key e) then None else Some e)

  abbrev again : ℕ → Option ℕ
  again n = (if p2 n then Some n else None)

  choice_same : {X : Type 0} (b : Bool) (x y : X) → (if b then Some x else None) ≡ Some y → x ≡ y
  choice_same true x y h = some_is h
  choice_same false x y h = absurd (cc)

  choice_is : {X : Type 0} (b : Bool) (x y : X) → (if b then Some x else None) ≡ Some y → b ≡ true
  choice_is true x y h = refl
  choice_is false x y h = absurd (cc)

  kept_same : (b : Bool) (x y : E) → (if b then None else Some x) ≡ Some y → x ≡ y
  kept_same true x y h = absurd (cc)
  kept_same false x y h = some_is h

  kept_off : (b : Bool) (x y : E) → (if b then None else Some x) ≡ Some y → b ≡ false
  kept_off true x y h = absurd (cc)
  kept_off false x y h = refl

  module _ (ends : List E) (m : IsMap Held (filter p (range_with_len 0 len)) ends) (found : List E) (m2 : IsMap Holds (filter_map again dirty) found) where
    in_kept : (e : E) → Contains (filter_map kept ends) e → (is_in dirty (key e) ≡ false) × Holds (key e) e × (p2 (key e) ≡ true)
    in_kept e c =
        let within = part_in kept key (λ x y. kept_same (is_in dirty (key x)) x y) ends e c in
        let off = kept_off (is_in dirty (key e)) e e (part_passes kept key (λ x y. kept_same (is_in dirty (key x)) x y) ends e c) in
        let it = item_of Held (filter p (range_with_len 0 len)) ends m e within in
        let is : key e ≡ it.item = old.keyed it.item e it.gives in
        let mine : Held (key e) e = subst (λ (n : ℕ). Held n e) (sym is) it.gives in
        let was : p (key e) ≡ true = ap p is ∙ passes_in p (range_with_len 0 len) it.item it.within in
        let now : p2 (key e) ≡ true = end (key e) (left (key e) was off) off ∙ was in
        (off, moves (key e) e now off mine, now)

    in_found : (e : E) → Contains found e → Contains dirty (key e) × Holds (key e) e × (p2 (key e) ≡ true)
    in_found e c =
        let it = item_of Holds (filter_map again dirty) found m2 e c in
        let is : key e ≡ it.item = new.keyed it.item e it.gives in
        let within = part_in again (λ n. n) (λ x y. choice_same (p2 x) x y) dirty it.item it.within in
        let pass = choice_is (p2 it.item) it.item it.item (part_passes again (λ n. n) (λ x y. choice_same (p2 x) x y) dirty it.item it.within) in
        (subst (Contains dirty) (sym is) within, subst (λ (n : ℕ). Holds n e) (sym is) it.gives, ap p2 is ∙ pass)

    in_all : (e : E) → Contains (filter_map kept ends ++ found) e → Holds (key e) e × (p2 (key e) ≡ true)
    in_all e c = elim (Contains-append_cases (filter_map kept ends) found e c) [
      | inl h ↦ let k = in_kept e h in (k.1, k.2)
      | inr h ↦ let k = in_found e h in (k.1, k.2)
    ]

    all_apart : IsDistinct nat_eq dirty → Apart (map key (filter_map kept ends ++ found))
    all_apart d =
        subst Apart (sym (map_both (filter_map kept ends)))
        (apart_both (map key (filter_map kept ends)) (map key found)
        (part_apart kept key (λ x y. kept_same (is_in dirty (key x)) x y) ends
        (subst Apart (sym (keys_are key Held old.keyed (filter p (range_with_len 0 len)) ends m)) (apart_rising (filter p (range_with_len 0 len)) (rises p 0 len))))
        (subst Apart (sym (keys_are key Holds new.keyed (filter_map again dirty) found m2))
        (subst Apart (plain (filter_map again dirty)) (part_apart again (λ n. n) (λ x y. choice_same (p2 x) x y) dirty (subst Apart (sym (plain dirty)) (apart_distinct dirty d)))))
        other)
      where
        plain : (ns : List ℕ) → map (λ n. n) ns ≡ ns
        plain [] = refl
        plain (n ∷ ns) = ap (λ xs. n ∷ xs) (plain ns)

        map_both : (es : List E) → map key (es ++ found) ≡ map key es ++ map key found
        map_both [] = refl
        map_both (e ∷ es) = ap (λ xs. key e ∷ xs) (map_both es)

        other : (n : ℕ) → Contains (map key (filter_map kept ends)) n → Contains (map key found) n → ⊥
        other n c k =
            let a = in_map_back key (filter_map kept ends) n c in
            let b = in_map_back key found n k in
            let off = (in_kept a.item a.within).0 in
            let on = (in_found b.item b.within).0 in
            false≢true (sym off ∙ ap (is_in dirty) a.same
            ∙ any_in (nat_eq n) dirty n (subst (Contains dirty) b.same on) (nat_eq_equiv.refl n))

    has_all : (n : ℕ) → p2 n ≡ true → Contains (map key (filter_map kept ends ++ found)) n
    has_all n h = elim (cases_Bool (is_in dirty n)) [
      | inl e ↦
          let r = any_back (nat_eq n) dirty e in
          let c : Contains dirty n = subst (Contains dirty) (sym (eqb-true n r.item r.passes)) r.within in
          let told : again n ≡ Some n = ap (λ b. if b then Some n else None) h in
          let o = result_of Holds (filter_map again dirty) found m2 n (in_filter_map again dirty n n c told) in
          subst (Contains (map key (filter_map kept ends ++ found))) (new.keyed n o.result o.gives)
          (in_map key (filter_map kept ends ++ found) o.result (Contains-append_right (filter_map kept ends) found o.result o.within))
      | inr e ↦
          let was : p n ≡ true = sym (end n (known n h) e) ∙ h in
          let o = result_of Held (filter p (range_with_len 0 len)) ends m n (in_filter p (range_with_len 0 len) n (number_in len n (old.low n was)) was) in
          let is : key o.result ≡ n = old.keyed n o.result o.gives in
          let told : kept o.result ≡ Some o.result = ap (λ k. if is_in dirty k then None else Some o.result) is ∙ ap (λ (b : Bool). if b then None else Some o.result) e in
          subst (Contains (map key (filter_map kept ends ++ found))) is
          (in_map key (filter_map kept ends ++ found) o.result
          (Contains-append_left (filter_map kept ends) found o.result (in_filter_map kept ends o.result o.result o.within told)))
    ]

    pub renewed_all : IsDistinct nat_eq dirty → (result : List E) → IsPermutation (filter_map kept ends ++ found) result → IsNonDecreasingBy key result
        → IsMap Holds (filter p2 (range_with_len 0 len2)) result
    renewed_all d result perm up =
        let all = filter_map kept ends ++ found in
        let back = IsPermutation-sym all result perm in
        let keys = IsPermutation-map key all result perm in
        let distinct = IsDistinct-IsPermutation nat_eq nat_eq_equiv.symm (map key all) (map key result) keys (distinct_apart (map key all) (all_apart d)) in
        let same : map key result ≡ filter p2 (range_with_len 0 len2) =
        one_rising (map key result) (filter p2 (range_with_len 0 len2)) (rises_by key result up distinct) (rises p2 0 len2)
        (λ n c.
        let i = in_map_back key result n c in
        let good : p2 n ≡ true = ap p2 (sym i.same) ∙ (in_all i.item (Contains-permutation result all i.item back i.within)).1 in
        in_filter p2 (range_with_len 0 len2) n (number_in len2 n (new.low n good)) good)
        (λ n c. Contains-permutation (map key all) (map key result) n keys (has_all n (passes_in p2 (range_with_len 0 len2) n c))) in
        subst (λ (ns : List ℕ). IsMap Holds ns result) same (each_map key Holds result (λ e c. (in_all e (Contains-permutation result all e back c)).0))
