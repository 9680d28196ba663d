-- The nodes that have places, in the order of their places.

use Rattle.std.proofs.Common.{◌≡◌, ℕ, zero, suc, ◌+◌, ◌<◌, ◌≤◌, Bool, true, false, cond, List, [], ◌∷◌, ◌++◌, map, length, get_or, Option, None, Some, refl, sym, ap, subst, ◌∙◌, inl, inr, arith}
use Rattle.std.specs.Prelude.{nat_eq, count_by, if◌then◌else◌}
use Rattle.std.specs.List.{filter_map, range_with_len}
use Rattle.std.specs.Option.{option_to_list}
use Rattle.std.proofs.lemmas.Bool.{cases_eq, eq-eqb, ne_eqb}
use Rattle.std.proofs.lemmas.List.{length-map, get_or-map}
use Rattle.std.proofs.lemmas.List.Sums.{sum_by-cons, sum_by-append}
use Rattle.std.proofs.lemmas.List.Sorted.{sum_by-IsPermutation}
use Rattle.levelizer.specs.Reaching.{has_mark}
use Rattle.pin_graph.specs.declared.places.AtLevel.{AtLevel}
use Rattle.pin_graph.specs.Nodes.{node_bound}
use Rattle.pin_graph.specs.Graphs.{Graphed, AreClockNodes}
use Rattle.pin_graph.specs.Placing.{at_level, leveled, node_in, node_of, AreOrdered, AreInPlace, AreInOrder}
use Rattle.pin_graph.proofs.ArcLaws.{mapped_numbers_more}
use Rattle.store_pins.proofs.PinLaws.{there}

-- what passes once stands at one place
module _ {X : Type 0} (t : X → Bool) where
  one_passes : (xs : List X) (d : X) (k : ℕ) → k < length xs → t (get_or xs k d) ≡ true → 1 ≤ count_by t xs
  one_passes [] d k low e = absurd (omega arith)
  one_passes (x ∷ xs) d zero low e =
      let parts : count_by t (x ∷ xs) ≡ cond (t x) 1 0 + count_by t xs = sum_by-cons (λ y. cond (t y) 1 0) x xs in
      let one : cond {A = ℕ} (t x) 1 0 ≡ 1 = rw e refl in
      omega (arith, parts, one)
  one_passes (x ∷ xs) d (suc k) low e =
      let parts : count_by t (x ∷ xs) ≡ cond (t x) 1 0 + count_by t xs = sum_by-cons (λ y. cond (t y) 1 0) x xs in
      let rest = one_passes xs d k (omega arith) e in
      omega (arith, parts, rest)

  pub same_place : (xs : List X) (d : X) (p q : ℕ) → p < length xs → q < length xs → t (get_or xs p d) ≡ true → t (get_or xs q d) ≡ true → count_by t xs ≤ 1 → p ≡ q
  same_place [] d p q lp lq e f few = absurd (omega arith)
  same_place (x ∷ xs) d zero zero lp lq e f few = refl
  same_place (x ∷ xs) d zero (suc q) lp lq e f few =
      let parts : count_by t (x ∷ xs) ≡ cond (t x) 1 0 + count_by t xs = sum_by-cons (λ y. cond (t y) 1 0) x xs in
      let one : cond {A = ℕ} (t x) 1 0 ≡ 1 = rw e refl in
      let rest = one_passes xs d q (omega arith) f in
      absurd (omega (arith, parts, one, rest, few))
  same_place (x ∷ xs) d (suc p) zero lp lq e f few =
      let parts : count_by t (x ∷ xs) ≡ cond (t x) 1 0 + count_by t xs = sum_by-cons (λ y. cond (t y) 1 0) x xs in
      let one : cond {A = ℕ} (t x) 1 0 ≡ 1 = rw f refl in
      let rest = one_passes xs d p (omega arith) e in
      absurd (omega (arith, parts, one, rest, few))
  same_place (x ∷ xs) d (suc p) (suc q) lp lq e f few =
      let parts : count_by t (x ∷ xs) ≡ cond (t x) 1 0 + count_by t xs = sum_by-cons (λ y. cond (t y) 1 0) x xs in
      ap suc (same_place xs d p q (omega arith) (omega arith) e f (omega (arith, parts, few)))

module _ (n : ℕ) (marks : List Bool) (levels : List ℕ) where
  -- each node stands once among the marked ones
  module _ (node : ℕ) where
    abbrev is_here : AtLevel → Bool
    is_here at = nat_eq at.node node

    here_of : (k : ℕ) → count_by is_here (option_to_list (at_level marks levels k)) ≤ cond (nat_eq k node) 1 0
    here_of k = by (has_mark marks k)
      where
        by : (b : Bool) → count_by is_here (option_to_list (if b then Some (record { level = get_or levels k 0; node = k }) else None)) ≤ cond (nat_eq k node) 1 0
        by false = omega arith
        by true =
            let parts = sum_by-cons (λ (at : AtLevel). cond (nat_eq at.node node) 1 0) (record { level = get_or levels k 0; node = k }) [] in
            omega (arith, parts)

    leveled_more : (m : ℕ) → leveled (suc m) marks levels ≡ leveled m marks levels ++ option_to_list (at_level marks levels m)
    leveled_more m =
        let e : suc m ≡ m + 1 = omega arith in
        ap (λ k. filter_map (at_level marks levels) (range_with_len 0 k)) e
        ∙ sym (mapped_numbers_more (at_level marks levels) m (leveled m marks levels) (leveled m marks levels ++ option_to_list (at_level marks levels m)) (at_level marks levels m) refl refl refl)

    counted_more : (m : ℕ) → count_by is_here (leveled (suc m) marks levels) ≡ count_by is_here (leveled m marks levels) + count_by is_here (option_to_list (at_level marks levels m))
    counted_more m =
        ap (count_by is_here) (leveled_more m)
        ∙ sum_by-append (λ (at : AtLevel). cond (nat_eq at.node node) 1 0) (leveled m marks levels) (option_to_list (at_level marks levels m))

    none_below : (m : ℕ) → m ≤ node → count_by is_here (leveled m marks levels) ≤ 0
    none_below zero low = omega arith
    none_below (suc m) low =
        let more = counted_more m in
        let rest = none_below m (omega arith) in
        let here = here_of m in
        let away : cond {A = ℕ} (nat_eq m node) 1 0 ≡ 0 = rw (ne_eqb m node (λ e. omega arith)) refl in
        omega (arith, more, rest, here, away)

    pub once_leveled : (m : ℕ) → count_by is_here (leveled m marks levels) ≤ 1
    once_leveled zero = omega arith
    once_leveled (suc m) =
        let more = counted_more m in
        let here = here_of m in
        elim (cases_eq m node) [
          | inl same ↦
              let rest = none_below m (omega arith) in
              let one : cond {A = ℕ} (nat_eq m node) 1 0 ≡ 1 = rw (eq-eqb m node same) refl in
              omega (arith, more, here, rest, one)
          | inr other ↦
              let rest = once_leveled m in
              let away : cond {A = ℕ} (nat_eq m node) 1 0 ≡ 0 = rw (ne_eqb m node other) refl in
              omega (arith, more, here, rest, away)
        ]

  module _ (nodes : List AtLevel) (are : AreOrdered n marks levels nodes) where
    once_ordered : (node : ℕ) → count_by (λ (at : AtLevel). nat_eq at.node node) nodes ≤ 1
    once_ordered node =
        let same = sum_by-IsPermutation (λ (at : AtLevel). cond (nat_eq at.node node) 1 0) (leveled n marks levels) nodes are.same in
        let once = once_leveled node n in
        omega (arith, same, once)

    pub in_order : (places : List (Option ℕ)) → AreInPlace n nodes (length nodes) places → AreInOrder places (map node_of nodes)
    in_order places placed = record {
      told = λ p low.
          let few : p < length nodes = (let long = length-map nodes node_of in omega (arith, low, long)) in
          let s = there (get_or places (node_in nodes p) None) (placed.there p few) in
          let t = placed.told (node_in nodes p) s.0 s.1 in
          let same : s.0 ≡ p =
          same_place (λ (at : AtLevel). nat_eq at.node (node_in nodes p)) nodes (record { level = 0; node = 0 }) s.0 p t.0 few
          (eq-eqb (node_in nodes s.0) (node_in nodes p) t.1) (eq-eqb (node_in nodes p) (node_in nodes p) refl) (once_ordered (node_in nodes p)) in
          ap (λ m. get_or places m None) (here p few) ∙ s.1 ∙ ap Some same;
      there = λ node p e.
          let t = placed.told node p e in
          let low = t.0 in
          let long = length-map nodes node_of in
          (omega (arith, low, long), here p low ∙ t.1);
    }
      where
        here : (p : ℕ) → p < length nodes → get_or (map node_of nodes) p 0 ≡ node_in nodes p
        here p low = get_or-map node_of nodes p (record { level = 0; node = 0 }) 0 low

-- as the calls have it
pub order_as : (n : ℕ) (marks : List Bool) (levels : List ℕ) (nodes nodes2 nodes3 : List AtLevel) (places : List (Option ℕ)) (order : List ℕ) → AreOrdered n marks levels nodes
    → nodes2 ≡ nodes → nodes3 ≡ nodes → AreInPlace n nodes2 (length nodes2) places → order ≡ map node_of nodes3 → AreInOrder places order
order_as n marks levels nodes nodes2 nodes3 places order are a b placed made =
    subst (λ (os : List ℕ). AreInOrder places os) (sym (made ∙ ap (map node_of) b))
    (in_order n marks levels nodes are places (subst (λ (ns : List AtLevel). AreInPlace n ns (length ns) places) a placed))

-- a graph's nodes that have places
pub clock_nodes_are : (g : Graphed) (order : List ℕ) → length g.places ≡ node_bound g.stored → AreInOrder g.places order → AreClockNodes g order
clock_nodes_are g order long are = record {
  told = λ p low. (subst (λ (n : ℕ). get_or order p 0 < n) long (placed_below g.places (get_or order p 0) p (are.told p low)), are.told p low);
  there = are.there;
}
  where
    placed_below : (places : List (Option ℕ)) (node p : ℕ) → get_or places node None ≡ Some p → node < length places
    placed_below [] node p e = absurd (cc)
    placed_below (o ∷ os) zero p e = omega arith
    placed_below (o ∷ os) (suc node) p e = let low = placed_below os node p e in omega arith

-- places that are the same at each node
pub order_again : (places places2 : List (Option ℕ)) (order : List ℕ) → ((node : ℕ) → get_or places2 node None ≡ get_or places node None)
    → AreInOrder places order → AreInOrder places2 order
order_again places places2 order same are = record {
  told = λ p low. same (get_or order p 0) ∙ are.told p low;
  there = λ node p e. are.there node p (sym (same node) ∙ e);
}
