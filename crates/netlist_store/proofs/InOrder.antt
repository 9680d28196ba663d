-- Lists that are what a table has at the numbers of an order, as the table and the order change.

use Rattle.std.proofs.Common.{◌≡◌, ◌≢◌, ℕ, Bool, true, false, List, [], ◌∷◌, map, filter, Option, None, Some, refl, sym, ap, subst, ◌∙◌, inl, inr, not}
use Rattle.std.specs.Prelude.{find, option_and_then, option_map, nat_eq, ◌||◌}
use Rattle.std.specs.List.{list_any, filter_map}
use Rattle.std.specs.Str.{bytes_eq}
use Rattle.std.proofs.lemmas.Bool.{cases_Bool, false≢true}
use Rattle.std.proofs.lemmas.Bool.Decides.{eqb_tells}
use Rattle.netlist_store.specs.Numbering.{name_at, number_of}
use Rattle.netlist_store.proofs.ShardLaws.{same_is, same_self}
use Rattle.netlist_store.proofs.NumberLaws.{number_at, some_is}

module _ {X : Type 0} where
  -- a table that is the same at the numbers of the order
  pub same_rows : (look after : ℕ → Option X) (order : List ℕ) → ((n : ℕ) → list_any (nat_eq n) order ≡ true → after n ≡ look n)
      → filter_map after order ≡ filter_map look order
  same_rows look after [] same = refl
  same_rows look after (m ∷ ms) same =
      let here : after m ≡ look m = same m (elim (eqb_tells m m) [ inl h ↦ rw h.0 refl | inr h ↦ absurd (h.1 refl) ]) in
      by (look m) refl here (same_rows look after ms (λ n h. same n (later n h)))
    where
      later : (n : ℕ) → list_any (nat_eq n) ms ≡ true → (nat_eq n m || list_any (nat_eq n) ms) ≡ true
      later n h = elim (cases_Bool (nat_eq n m)) [ inl e ↦ rw e refl | inr e ↦ rw e h ]

      by : (o : Option X) → look m ≡ o → after m ≡ look m → filter_map after ms ≡ filter_map look ms → filter_map after (m ∷ ms) ≡ filter_map look (m ∷ ms)
      by None e h rest = rw (h ∙ e, e) rest
      by (Some x) e h rest = rw (h ∙ e, e) (ap (λ xs. x ∷ xs) rest)

  -- each row is changed
  pub changed_rows : (look after : ℕ → Option X) (change : X → X) (order : List ℕ) → ((n : ℕ) → after n ≡ option_map change (look n))
      → filter_map after order ≡ map change (filter_map look order)
  changed_rows look after change [] all = refl
  changed_rows look after change (m ∷ ms) all = by (look m) refl (changed_rows look after change ms all)
    where
      by : (o : Option X) → look m ≡ o → filter_map after ms ≡ map change (filter_map look ms) → filter_map after (m ∷ ms) ≡ map change (filter_map look (m ∷ ms))
      by None e rest = rw (all m ∙ ap (option_map change) e, e) rest
      by (Some x) e rest = rw (all m ∙ ap (option_map change) e, e) (ap (λ xs. change x ∷ xs) rest)

  -- a number goes from the order, and its row from the list
  pub removed_row : (look : ℕ → Option X) (keep : X → Bool) (n : ℕ) (order : List ℕ) → ((m : ℕ) (x : X) → look m ≡ Some x → keep x ≡ not (nat_eq n m))
      → filter_map look (filter (λ m. not (nat_eq n m)) order) ≡ filter keep (filter_map look order)
  removed_row look keep n [] all = refl
  removed_row look keep n (m ∷ ms) all = by (look m) (nat_eq n m) refl refl (removed_row look keep n ms all)
    where
      by : (o : Option X) (b : Bool) → look m ≡ o → nat_eq n m ≡ b
          → filter_map look (filter (λ k. not (nat_eq n k)) ms) ≡ filter keep (filter_map look ms)
          → filter_map look (filter (λ k. not (nat_eq n k)) (m ∷ ms)) ≡ filter keep (filter_map look (m ∷ ms))
      by None true e h rest = rw (h, e) rest
      by None false e h rest = rw h (rw e rest)
      by (Some x) true e h rest = let goes : keep x ≡ false = all m x e ∙ ap not h in rw (h, e) (rw goes rest)
      by (Some x) false e h rest = let stays : keep x ≡ true = all m x e ∙ ap not h in rw h (rw e (rw stays (ap (λ xs. x ∷ xs) rest)))

  -- the row of a name is that of its number
  module _ (look : ℕ → Option X) (name : X → List ℕ) (names : List (Option (List ℕ)))
      (named : (n : ℕ) (x : X) → look n ≡ Some x → name_at names n ≡ Some (name x))
      (distinct : (n : ℕ) (q : List ℕ) → name_at names n ≡ Some q → number_of names q ≡ Some n) (q : List ℕ) where
    its_number : (n : ℕ) (x : X) → look n ≡ Some x → bytes_eq (name x) q ≡ true → number_of names q ≡ Some n
    its_number n x e h = distinct n q (named n x e ∙ ap Some (same_is (name x) q h))

    none_found : (order : List ℕ) → number_of names q ≡ None → find (λ x. bytes_eq (name x) q) (filter_map look order) ≡ None
    none_found [] none = refl
    none_found (m ∷ ms) none = by (look m) refl (none_found ms none)
      where
        by : (o : Option X) → look m ≡ o → find (λ x. bytes_eq (name x) q) (filter_map look ms) ≡ None → find (λ x. bytes_eq (name x) q) (filter_map look (m ∷ ms)) ≡ None
        by None e rest = rw e rest
        by (Some x) e rest = elim (cases_Bool (bytes_eq (name x) q)) [
          | inl h ↦ let f = its_number m x e h in absurd (cc)
          | inr h ↦ rw e (rw h rest)
        ]

    gap_found : (order : List ℕ) (n : ℕ) → number_of names q ≡ Some n → look n ≡ None → find (λ x. bytes_eq (name x) q) (filter_map look order) ≡ None
    gap_found [] n some gap = refl
    gap_found (m ∷ ms) n some gap = by (look m) refl (gap_found ms n some gap)
      where
        by : (o : Option X) → look m ≡ o → find (λ x. bytes_eq (name x) q) (filter_map look ms) ≡ None → find (λ x. bytes_eq (name x) q) (filter_map look (m ∷ ms)) ≡ None
        by None e rest = rw e rest
        by (Some x) e rest = elim (cases_Bool (bytes_eq (name x) q)) [
          | inl h ↦
              let same : m ≡ n = some_is (sym (its_number m x e h) ∙ some) in
              let f : look m ≡ None = ap look same ∙ gap in
              absurd (cc)
          | inr h ↦ rw e (rw h rest)
        ]

    row_found : (order : List ℕ) (n : ℕ) (x : X) → number_of names q ≡ Some n → look n ≡ Some x → list_any (nat_eq n) order ≡ true
        → find (λ x. bytes_eq (name x) q) (filter_map look order) ≡ Some x
    row_found [] n x some here in_it = absurd (false≢true in_it)
    row_found (m ∷ ms) n x some here in_it = by (look m) refl (λ h. row_found ms n x some here h)
      where
        called : bytes_eq (name x) q ≡ true
        called = let f : name x ≡ q = some_is (sym (named n x here) ∙ number_at names q n some) in ap (λ k. bytes_eq k q) f ∙ same_self q

        rest : m ≢ n → list_any (nat_eq n) ms ≡ true
        rest apart = elim (eqb_tells n m) [
          | inl h ↦ absurd (apart (sym h.1))
          | inr h ↦ subst (λ b. (b || list_any (nat_eq n) ms) ≡ true) h.0 in_it
        ]

        by : (o : Option X) → look m ≡ o → (list_any (nat_eq n) ms ≡ true → find (λ x. bytes_eq (name x) q) (filter_map look ms) ≡ Some x)
            → find (λ x. bytes_eq (name x) q) (filter_map look (m ∷ ms)) ≡ Some x
        by None e again = rw e (again (rest (λ same. let f : look m ≡ Some x = ap look same ∙ here in absurd (cc))))
        by (Some y) e again = elim (cases_Bool (bytes_eq (name y) q)) [
          | inl h ↦
              let same : m ≡ n = some_is (sym (its_number m y e h) ∙ some) in
              let f : y ≡ x = some_is (sym e ∙ ap look same ∙ here) in
              rw e (rw h (ap Some f))
          | inr h ↦
              rw e (rw h (again (rest (λ same.
              let f : y ≡ x = some_is (sym e ∙ ap look same ∙ here) in
              false≢true (sym h ∙ ap (λ z. bytes_eq (name z) q) f ∙ called)))))
        ]

    pub find_in_order : (order : List ℕ) → ((n : ℕ) (x : X) → look n ≡ Some x → list_any (nat_eq n) order ≡ true)
        → find (λ x. bytes_eq (name x) q) (filter_map look order) ≡ option_and_then look (number_of names q)
    find_in_order order ordered = by (number_of names q) refl
      where
        row : (n : ℕ) (o : Option X) → number_of names q ≡ Some n → look n ≡ o → find (λ x. bytes_eq (name x) q) (filter_map look order) ≡ o
        row n None e h = gap_found order n e h
        row n (Some x) e h = row_found order n x e h (ordered n x h)

        by : (o : Option ℕ) → number_of names q ≡ o → find (λ x. bytes_eq (name x) q) (filter_map look order) ≡ option_and_then look o
        by None e = none_found order e
        by (Some n) e = row n (look n) e refl
