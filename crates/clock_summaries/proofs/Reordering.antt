-- Counts, least slacks and sums over items do not depend on their order.

use Rattle.std.proofs.Common.{◌≡◌, ℕ, ◌+◌, ◌<◌, ℤ, ◌+ℤ◌, Bool, true, false, ◌⊎◌, cond, List, [], ◌∷◌, map, Option, None, Some, refl, sym, ap, subst, ◌∙◌, inl, inr, arith}
use Rattle.std.specs.Prelude.{nat_eq, count_by}
use Rattle.std.proofs.lemmas.Bool.{cases_Bool, eqb-true, eq-eqb}
use Rattle.std.proofs.lemmas.Int.{ints, clamps}
use Rattle.std.proofs.lemmas.List.Sums.{sum_by-cons}
use Rattle.timing_defs.specs.declared.kinds.Split.TheVariants.{Early}
use Rattle.timing_rules.specs.Rows.{outer_some}
use Rattle.timing_rules.specs.Reports.{least_slack, negative_part, negative_sum}
use Rattle.level_workers.specs.Mapped.{IsMap}

pub count_more : {E : Type 0} (p : E → Bool) (x : E) (xs : List E) → count_by p (x ∷ xs) ≡ cond (p x) 1 0 + count_by p xs
count_more p x xs = sum_by-cons (λ y. cond (p y) 1 0) x xs

-- a list without the first place of a number
taken_out : ℕ → List ℕ → List ℕ
taken_out n [] = []
taken_out n (x ∷ xs) = cond (nat_eq n x) xs (x ∷ taken_out n xs)

self_eq : (n : ℕ) → nat_eq n n ≡ true
self_eq n = eq-eqb n n refl

count_out : (m n : ℕ) (xs : List ℕ) → 0 < count_by (nat_eq n) xs → count_by (nat_eq m) xs ≡ cond (nat_eq m n) 1 0 + count_by (nat_eq m) (taken_out n xs)
unfolding taken_out
count_out m n [] low = absurd (omega arith)
count_out m n (x ∷ xs) low = elim (cases_Bool (nat_eq n x)) [
  | inl h ↦ rw h (count_more (nat_eq m) x xs ∙ ap (λ y. cond (nat_eq m y) 1 0 + count_by (nat_eq m) xs) (sym (eqb-true n x h)))
  | inr h ↦
      let less : cond {A = ℕ} (nat_eq n x) 1 0 ≡ 0 = rw h refl in
      let parts = count_more (nat_eq n) x xs in
      let rest = count_out m n xs (omega arith) in
      let here = count_more (nat_eq m) x xs in
      let there = count_more (nat_eq m) x (taken_out n xs) in
      rw h (omega arith)
]

lesser_swap : (b x y : Option ℤ) → outer_some Early (outer_some Early b x) y ≡ outer_some Early (outer_some Early b y) x
lesser_swap None None None = refl
lesser_swap None None (Some y) = refl
lesser_swap None (Some x) None = refl
lesser_swap None (Some x) (Some y) = ap Some (omega (arith, ints, clamps))
lesser_swap (Some b) None None = refl
lesser_swap (Some b) None (Some y) = refl
lesser_swap (Some b) (Some x) None = refl
lesser_swap (Some b) (Some x) (Some y) = ap Some (omega (arith, ints, clamps))

swapped : (a b c : ℤ) → a +ℤ (b +ℤ c) ≡ b +ℤ (a +ℤ c)
swapped a b c = omega (arith, ints)

moved : (all rest less here there : ℕ) → all ≡ here + rest → rest ≡ there + less → all ≡ there + (here + less)
moved all rest less here there e f = omega arith

module _ {E : Type 0} (R : ℕ → E → Type 0) where
  -- the item of a number, taken out of a list
  record IsOut (n : ℕ) (ns : List ℕ) (items : List E) : Type 0 where
    item : E
    gives : R n item
    rest : List E
    mapped : IsMap R ns rest
    count : (p : E → Bool) → count_by p items ≡ cond (p item) 1 0 + count_by p rest
    sum : (w : E → Option ℤ) → negative_sum (map w items) ≡ negative_part (w item) +ℤ negative_sum (map w rest)
    least : (w : E → Option ℤ) (b : Option ℤ) → least_slack b (map w items) ≡ least_slack (outer_some Early b (w item)) (map w rest)

  out : (n : ℕ) (ns : List ℕ) (items : List E) → IsMap R ns items → 0 < count_by (nat_eq n) ns → IsOut n (taken_out n ns) items
  unfolding taken_out
  out n [] items m low = absurd (omega arith)
  out n (x ∷ xs) [] m low = absurd m
  out n (x ∷ xs) (e ∷ es) m low = by (λ some. out n xs es m.1 some) (cases_Bool (nat_eq n x))
    where
      by : (0 < count_by (nat_eq n) xs → IsOut n (taken_out n xs) es) → (nat_eq n x ≡ true) ⊎ (nat_eq n x ≡ false) → IsOut n (cond (nat_eq n x) xs (x ∷ taken_out n xs)) (e ∷ es)
      by again (inl h) =
          let same : n ≡ x = eqb-true n x h in
          subst (λ (ys : List ℕ). IsOut n ys (e ∷ es)) (sym (ap (λ b. cond b xs (x ∷ taken_out n xs)) h))
          (record {
            item = e;
            gives = subst (λ (k : ℕ). R k e) (sym same) m.0;
            rest = es;
            mapped = m.1;
            count = λ p. count_more p e es;
            sum = λ w. refl;
            least = λ w b. refl;
          })
      by again (inr h) =
          let less : cond {A = ℕ} (nat_eq n x) 1 0 ≡ 0 = rw h refl in
          let parts = count_more (nat_eq n) x xs in
          let r = again (omega arith) in
          subst (λ (ys : List ℕ). IsOut n ys (e ∷ es)) (sym (ap (λ b. cond b xs (x ∷ taken_out n xs)) h))
          (record {
            item = r.item;
            gives = r.gives;
            rest = e ∷ r.rest;
            mapped = (m.0, r.mapped);
            count = λ p.
                (moved (count_by p (e ∷ es)) (count_by p es) (count_by p r.rest) (cond (p e) 1 0) (cond (p r.item) 1 0) (count_more p e es) (r.count p)
                ∙ ap (λ k. cond (p r.item) 1 0 + k) (sym (count_more p e r.rest)));
            sum = λ w. (ap (λ z. negative_part (w e) +ℤ z) (r.sum w) ∙ swapped (negative_part (w e)) (negative_part (w r.item)) (negative_sum (map w r.rest)));
            least = λ w b.
                (r.least w (outer_some Early b (w e)) ∙ ap (λ o. least_slack o (map w r.rest)) (lesser_swap b (w e) (w r.item)));
          })

  -- the items of the numbers in another order
  pub record AreReordered (ns : List ℕ) (items : List E) : Type 0 where
    pub list : List E
    pub mapped : IsMap R ns list
    pub count : (p : E → Bool) → count_by p items ≡ count_by p list
    pub sum : (w : E → Option ℤ) → negative_sum (map w items) ≡ negative_sum (map w list)
    pub least : (w : E → Option ℤ) (b : Option ℤ) → least_slack b (map w items) ≡ least_slack b (map w list)

  pub reordered : (ns ms : List ℕ) (items : List E) → IsMap R ms items → ((n : ℕ) → count_by (nat_eq n) ms ≡ count_by (nat_eq n) ns) → AreReordered ns items
  reordered [] [] [] m same = record { list = []; mapped = tt; count = λ p. refl; sum = λ w. refl; least = λ w b. refl }
  reordered [] [] (e ∷ es) m same = absurd m
  reordered [] (x ∷ xs) items m same =
      let s = same x in
      let parts = count_more (nat_eq x) x xs in
      let one : cond {A = ℕ} (nat_eq x x) 1 0 ≡ 1 = rw (self_eq x) refl in
      absurd (omega arith)
  reordered (n ∷ ns) ms items m same =
      let s = same n in
      let parts = count_more (nat_eq n) n ns in
      let one : cond {A = ℕ} (nat_eq n n) 1 0 ≡ 1 = rw (self_eq n) refl in
      let some : 0 < count_by (nat_eq n) ms = omega arith in
      let o = out n ms items m some in
      let r = reordered ns (taken_out n ms) o.rest o.mapped (λ k.
      let here = count_more (nat_eq k) n ns in
      let there = count_out k n ms some in
      let both = same k in
      omega arith) in
      record {
        list = o.item ∷ r.list;
        mapped = (o.gives, r.mapped);
        count = λ p. (o.count p ∙ ap (λ k. cond (p o.item) 1 0 + k) (r.count p) ∙ sym (count_more p o.item r.list));
        sum = λ w. (o.sum w ∙ ap (λ z. negative_part (w o.item) +ℤ z) (r.sum w));
        least = λ w b. (o.least w b ∙ r.least w (outer_some Early b (w o.item)));
      }
