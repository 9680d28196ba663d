-- The nodes of a set in the order of their levels.

use Rattle.std.proofs.Common.{◌≡◌, ℕ, ◌<◌, Bool, true, false, List, [], ◌∷◌, ◌++◌, map, length, refl, sym, ap, subst, ◌∙◌, arith, inl, inr, if◌then◌else◌}
use Rattle.std.specs.Prelude.{nat_eq, All}
use Rattle.std.specs.List.{IsDistinct, AllByRecursion}
use Rattle.std.specs.List.Sorted.{IsNonDecreasingBy, IsPermutation}
use Rattle.std.proofs.lemmas.Bool.{or_from, or_cases, or_left, or_right, eqb-true, eq-eqb, cases_Bool, both_ways, false≢true, false_from_ne_true}
use Rattle.std.proofs.lemmas.List.{append_assoc, append-nil, get_or-map, length-map}
use Rattle.std.proofs.lemmas.List.Elements.{All-nil, All-cons}
use Rattle.std.proofs.lemmas.List.Folds.{list_any-append}
use Rattle.std.proofs.lemmas.List.Sorted.{IsPermutation-map, All-permutation, list_any-IsPermutation, length_permutation}
use Rattle.std.proofs.lemmas.Map.Keys.{IsDistinct-IsPermutation}
use Rattle.indexmap.specs.IndexSet.{insert_key, insert_all}
use Rattle.pin_graph.specs.Graphs.{Graphed}
use Rattle.path_cones.specs.declared.leveling.Leveled.{Leveled}
use Rattle.path_cones.specs.Reaching.{is_among, leveled_at, depth_at, depth_of, node_of, AreConeNodes, AreOrdered, AreTheSame}
use Rattle.path_cones.proofs.Growing.{some_again, apart_by}

-- a number that is among some differs from one that differs from each
differs : (x y : ℕ) (xs : List ℕ) → AllByRecursion (λ z. nat_eq x z ≡ false) xs → is_among xs y ≡ true → nat_eq y x ≡ false
differs x y [] h e = absurd (false≢true e)
differs x y (z ∷ zs) h e = elim (or_cases (nat_eq y z) (is_among zs y) e) [
  | inl same ↦ false_from_ne_true (nat_eq y x) (λ f. both_ways (nat_eq x z) h.0 (eq-eqb x z (sym (eqb-true y x f) ∙ eqb-true y z same)))
  | inr later ↦ differs x y zs h.1 later
]

-- numbers that differ, inserted one after another
inserted : (xs done : List ℕ) → IsDistinct nat_eq xs → ((y : ℕ) → is_among xs y ≡ true → is_among done y ≡ false) → insert_all nat_eq done xs ≡ done ++ xs
unfolding IsDistinct
inserted [] done d apart = sym (append-nil done)
inserted (x ∷ xs) done d apart =
    let new : is_among done x ≡ false = apart x (or_left (nat_eq x x) (is_among xs x) (eq-eqb x x refl)) in
    let put : insert_key nat_eq done x ≡ done ++ x ∷ [] = ap (λ (b : Bool). if b then done else done ++ x ∷ []) new in
    ap (λ (ns : List ℕ). insert_all nat_eq ns xs) put
    ∙ inserted xs (done ++ x ∷ []) d.1 (λ y e.
    list_any-append (nat_eq y) done (x ∷ [])
    ∙ or_from (is_among done y) (is_among (x ∷ []) y) (apart y (or_right (nat_eq y x) (is_among xs y) e))
    (or_from (nat_eq y x) false (differs x y xs d.0 e) refl))
    ∙ append_assoc done (x ∷ []) xs

nodes_same : (g : Graphed) (nodes : List ℕ) → map node_of (map (leveled_at g) nodes) ≡ nodes
nodes_same g [] = refl
nodes_same g (n ∷ ns) = ap (λ (xs : List ℕ). n ∷ xs) (nodes_same g ns)

depths_fit : (g : Graphed) (nodes : List ℕ) → All (λ (l : Leveled). l.depth ≡ depth_at g l.node) (map (leveled_at g) nodes)
depths_fit g [] = All-nil (λ (l : Leveled). l.depth ≡ depth_at g l.node)
depths_fit g (n ∷ ns) = All-cons (λ (l : Leveled). l.depth ≡ depth_at g l.node) (leveled_at g n) (map (leveled_at g) ns) refl (depths_fit g ns)

falling : (g : Graphed) (sorted : List Leveled) → All (λ (l : Leveled). l.depth ≡ depth_at g l.node) sorted → IsNonDecreasingBy depth_of sorted
    → IsNonDecreasingBy (depth_at g) (map node_of sorted)
falling g sorted fit rise = λ i j d le low.
    let long = length-map sorted node_of in
    let under : j < length sorted = omega (arith, low, long) in
    let a = get_or-map node_of sorted i (leveled_at g d) d (omega (arith, le, under)) in
    let b = get_or-map node_of sorted j (leveled_at g d) d under in
    let x = fit i (leveled_at g d) (omega (arith, le, under)) in
    let y = fit j (leveled_at g d) under in
    let r = rise i j (leveled_at g d) le under in
    rw (a, b) (omega (arith, x, y, r))

-- the nodes of a set, sorted by their depths
module _ (g : Graphed) (ends nodes : List ℕ) (made sorted : List Leveled) (new : List ℕ) (reach : AreConeNodes g ends nodes) (apart : IsDistinct nat_eq nodes) (is : made ≡ map (leveled_at g) nodes)
    (same : IsPermutation made sorted) (rise : IsNonDecreasingBy depth_of sorted) (put : new ≡ insert_all nat_eq [] (map node_of sorted)) where
  flips : (x y : ℕ) → nat_eq x y ≡ nat_eq y x
  flips x y = elim (cases_Bool (nat_eq x y)) [
    | inl t ↦ t ∙ sym (eq-eqb y x (sym (eqb-true x y t)))
    | inr f ↦ f ∙ sym (false_from_ne_true (nat_eq y x) (λ t. both_ways (nat_eq x y) f (eq-eqb x y (sym (eqb-true y x t)))))
  ]

  moved : IsPermutation nodes (map node_of sorted)
  moved = subst (λ (xs : List ℕ). IsPermutation xs (map node_of sorted)) (ap (map node_of) is ∙ nodes_same g nodes) (IsPermutation-map node_of made sorted same)

  distinct : IsDistinct nat_eq (map node_of sorted)
  distinct = IsDistinct-IsPermutation nat_eq flips nodes (map node_of sorted) moved apart

  kept : new ≡ map node_of sorted
  kept = put ∙ inserted (map node_of sorted) [] distinct (λ y e. refl)

  pub same_again : AreTheSame nodes new
  same_again n = ap (λ (xs : List ℕ). is_among xs n) kept ∙ sym (list_any-IsPermutation (nat_eq n) nodes (map node_of sorted) moved)

  pub ordered_again : AreOrdered g ends new
  ordered_again =
      let fit = All-permutation (λ (l : Leveled). l.depth ≡ depth_at g l.node) made sorted same
      (subst (λ (ls : List Leveled). All (λ (l : Leveled). l.depth ≡ depth_at g l.node) ls) (sym is) (depths_fit g nodes)) in
      record {
        some = some_again g ends nodes new reach same_again (ap length kept ∙ length_permutation nodes (map node_of sorted) moved);
        once = apart_by new (subst (λ (xs : List ℕ). IsDistinct nat_eq xs) (sym kept) distinct);
        falling = subst (λ (xs : List ℕ). IsNonDecreasingBy (depth_at g) xs) (sym kept) (falling g sorted fit rise);
      }
