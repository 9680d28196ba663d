-- Comparing lists of nodes from the start.

use Rattle.std.proofs.Common.{◌≡◌, ℕ, zero, suc, ◌+◌, ◌<◌, ◌≤◌, Bool, List, [], ◌∷◌, length, map, drop, get_or, refl, sym, ap, subst, ◌∙◌, arith}
use Rattle.std.specs.Prelude.{◌==◌, nat_lt, cond}
use Rattle.std.specs.Ordering.{nat_cmp, ordering_then, ordering_reverse}
use Rattle.std.proofs.lemmas.Bool.{lt-ltb}
use Rattle.std.specs.Cmp.{nat_cmp_total}
use Rattle.std.specs.declared.cmp.Ordering.TheVariants.{Less, Equal, Greater}
use Rattle.std.proofs.Math.Numerals.{add-one}
use Rattle.timing_defs.specs.declared.rows.PathNode.{PathNode}
use Rattle.timing_rules.specs.Paths.{Named, named_cmp, nodes_cmp}

abbrev pub name_of_node : PathNode → Named
name_of_node node = (node.pin, node.tran)

step : (i : ℕ) (xs ys : List PathNode) (d e : PathNode) → i < length xs → i < length ys
    → nodes_cmp (map name_of_node (drop i xs)) (map name_of_node (drop i ys))
    ≡ ordering_then (named_cmp (name_of_node (get_or xs i d)) (name_of_node (get_or ys i e)))
    (nodes_cmp (map name_of_node (drop (suc i) xs)) (map name_of_node (drop (suc i) ys)))
step i [] ys d e low under = absurd (omega arith)
step i (x ∷ xs) [] d e low under = absurd (omega arith)
step zero (x ∷ xs) (y ∷ ys) d e low under = refl
step (suc i) (x ∷ xs) (y ∷ ys) d e low under = step i xs ys d e (omega arith) (omega arith)

-- two lists from a place on, by the nodes at that place and the lists behind it
pub nodes_step : (i : ℕ) (xs ys : List PathNode) (d e : PathNode) → i < length xs → i < length ys
    → nodes_cmp (map name_of_node (drop i xs)) (map name_of_node (drop i ys))
    ≡ ordering_then (named_cmp (name_of_node (get_or xs i d)) (name_of_node (get_or ys i e)))
    (nodes_cmp (map name_of_node (drop (i + 1) xs)) (map name_of_node (drop (i + 1) ys)))
nodes_step i xs ys d e low under =
    subst
    (λ k. nodes_cmp (map name_of_node (drop i xs)) (map name_of_node (drop i ys))
    ≡ ordering_then (named_cmp (name_of_node (get_or xs i d)) (name_of_node (get_or ys i e)))
    (nodes_cmp (map name_of_node (drop k xs)) (map name_of_node (drop k ys))))
    (sym (add-one i)) (step i xs ys d e low under)

-- from the end of the shorter one on
less_told : (x y : ℕ) → x < y → nat_cmp x y ≡ Less
less_told x y low = ap (λ (b : Bool). cond b Less (cond (x == y) Equal Greater)) (lt-ltb x y low)

later : (a b : ℕ) → nat_cmp a b ≡ nat_cmp (suc a) (suc b)
later a b =
    let less : nat_lt a b ≡ nat_lt (suc a) (suc b) = grind arith in
    let same : (a == b) ≡ (suc a == suc b) = grind arith in
    λ i. cond (less i) Less (cond (same i) Equal Greater)

pub nodes_past : (i : ℕ) (xs ys : List PathNode) → i ≤ length xs → i ≤ length ys → (i < length xs → i < length ys → ⊥)
    → nodes_cmp (map name_of_node (drop i xs)) (map name_of_node (drop i ys)) ≡ nat_cmp (length xs) (length ys)
nodes_past zero [] [] low under past = refl
nodes_past zero [] (y ∷ ys) low under past = sym (less_told 0 (suc (length ys)) (omega arith))
nodes_past zero (x ∷ xs) [] low under past = sym (nat_cmp_total.antisymm (suc (length xs)) 0 ∙ ap ordering_reverse (less_told 0 (suc (length xs)) (omega arith)))
nodes_past zero (x ∷ xs) (y ∷ ys) low under past = absurd (past (omega arith) (omega arith))
nodes_past (suc i) [] ys low under past = absurd (omega arith)
nodes_past (suc i) (x ∷ xs) [] low under past = absurd (omega arith)
nodes_past (suc i) (x ∷ xs) (y ∷ ys) low under past =
    nodes_past i xs ys (omega arith) (omega arith) (λ f g. past (omega arith) (omega arith)) ∙ later (length xs) (length ys)
