-- Sets of numbers, in any order.

use Rattle.std.proofs.Common.{◌≡◌, ℕ, ◌<◌, Bool, true, false, List, [], ◌∷◌, map, refl, sym, ap, subst, ◌∙◌}
use Rattle.std.specs.Prelude.{nat_eq, All}
use Rattle.std.specs.List.{list_any}
use Rattle.std.specs.List.Sorted.{IsPermutation}
use Rattle.std.proofs.lemmas.Bool.{or_left, or_right, eq-eqb, false≢true}
use Rattle.std.proofs.lemmas.List.Elements.{All-nil, All-cons}
use Rattle.std.proofs.lemmas.List.Sorted.{IsPermutation-map, list_any-IsPermutation}
use Rattle.indexmap.specs.IndexSet.{insert_all}
use Rattle.pin_graph.specs.Nodes.{node_bound}
use Rattle.pin_graph.specs.Graphs.{Graphed}
use Rattle.edit_reach.specs.Reach.{is_in, AreBehind}
use Rattle.edit_reach.proofs.Insertions.{grown, place_of}
use Rattle.carried_times.specs.declared.ordering.Leveled.{Leveled}
use Rattle.carried_times.specs.Ordered.{leveled_at, node_of, AreSame}

-- all of a list are in it
among_self : (xs : List ℕ) → All (λ x. is_in xs x ≡ true) xs
among_self xs = by xs (λ n e. e)
  where
    by : (ys : List ℕ) → ((n : ℕ) → is_in ys n ≡ true → is_in xs n ≡ true) → All (λ x. is_in xs x ≡ true) ys
    by [] sub = All-nil (λ x. is_in xs x ≡ true)
    by (y ∷ ys) sub =
        All-cons (λ x. is_in xs x ≡ true) y ys (sub y (or_left (nat_eq y y) (is_in ys y) (eq-eqb y y refl)))
        (by ys (λ n e. sub n (or_right (nat_eq n y) (is_in ys n) e)))

-- what holds of all holds of one
one_of : (P : ℕ → Type 0) (xs : List ℕ) (n : ℕ) → All P xs → is_in xs n ≡ true → P n
one_of P xs n all e = let p = place_of xs n e in subst P p.2 (all p.0 0 p.1)

-- inserted numbers are those that are in
pub inserted_same : (xs : List ℕ) → AreSame xs (insert_all nat_eq [] xs)
inserted_same xs n =
    let h = grown (λ x. is_in xs x ≡ true) xs [] (among_self xs) in
    let back : is_in (insert_all nat_eq [] xs) n ≡ true → is_in xs n ≡ true =
    (λ e. one_of (λ x. is_in xs x ≡ true) h.more n h.kept (sym (ap (λ ys. is_in ys n) h.is) ∙ e)) in
    let forth : is_in xs n ≡ true → is_in (insert_all nat_eq [] xs) n ≡ true =
    (λ e. one_of (λ x. is_in (insert_all nat_eq [] xs) x ≡ true) xs n h.there e) in
    both (is_in (insert_all nat_eq [] xs) n) (is_in xs n) back forth
  where
    both : (a b : Bool) → (a ≡ true → b ≡ true) → (b ≡ true → a ≡ true) → a ≡ b
    both true b f g = sym (f refl)
    both false true f g = absurd (false≢true (g refl))
    both false false f g = refl

nodes_same : (g : Graphed) (nodes : List ℕ) → map node_of (map (leveled_at g) nodes) ≡ nodes
nodes_same g [] = refl
nodes_same g (n ∷ ns) = ap (λ (xs : List ℕ). n ∷ xs) (nodes_same g ns)

pub sorted_same : (g : Graphed) (nodes : List ℕ) (made sorted : List Leveled) (new : List ℕ) → made ≡ map (leveled_at g) nodes → IsPermutation made sorted
    → new ≡ insert_all nat_eq [] (map node_of sorted) → AreSame nodes new
sorted_same g nodes made sorted new is same put n =
    let moved : IsPermutation nodes (map node_of sorted) =
    subst (λ (xs : List ℕ). IsPermutation xs (map node_of sorted)) (ap (map node_of) is ∙ nodes_same g nodes) (IsPermutation-map node_of made sorted same) in
    ap (λ (xs : List ℕ). is_in xs n) put ∙ inserted_same (map node_of sorted) n ∙ sym (list_any-IsPermutation (nat_eq n) nodes (map node_of sorted) moved)

-- all of the same numbers are below a bound
pub below_all : (g : Graphed) (seeds nodes ordered : List ℕ) → AreBehind g seeds nodes → AreSame nodes ordered → All (λ n. n < node_bound g.stored) ordered
below_all g seeds nodes ordered behind same = by ordered (λ n e. sym (same n) ∙ e)
  where
    by : (ys : List ℕ) → ((n : ℕ) → is_in ys n ≡ true → is_in nodes n ≡ true) → All (λ n. n < node_bound g.stored) ys
    by [] sub = All-nil (λ n. n < node_bound g.stored)
    by (y ∷ ys) sub =
        All-cons (λ n. n < node_bound g.stored) y ys (behind.below y (sub y (or_left (nat_eq y y) (is_in ys y) (eq-eqb y y refl))))
        (by ys (λ n e. sub n (or_right (nat_eq n y) (is_in ys n) e)))
