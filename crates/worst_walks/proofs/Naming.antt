-- Walks over nodes of any type against walks over their numbers, for callers that number the nodes
-- of a cone.

use Rattle.std.proofs.Common.{◌≡◌, ℕ, ◌<◌, ℤ, pos, Bool, true, false, ◌==◌, if◌then◌else◌, List, [], ◌∷◌, map, Option, Some, None, refl, sym, ap, ◌∙◌, arith}
use Rattle.std.specs.Prelude.{All}
use Rattle.std.specs.Ordering.{nat_cmp, ordering_then}
use Rattle.std.specs.declared.cmp.Ordering.{Ordering}
use Rattle.std.specs.Cmp.Lexicographic.{slice_cmp}
use Rattle.std.proofs.lemmas.Bool.{eqb-true}
use Rattle.std.proofs.lemmas.List.Elements.{All-nil, All-cons, All-head, All-tail}
use Rattle.std.proofs.lemmas.Option.{cond_some}
use Rattle.timing_defs.specs.RowTimes.{plus_some}
use Rattle.worst_walks.specs.declared.cones.Cone.{Cone}
use Rattle.worst_walks.specs.Walks.{count_of, arcs_into, delay_between, walk_sum, IsCone}
use Rattle.worst_walks.proofs.Filling.{arcs_there, delay_there}
use Rattle.worst_walks.proofs.Optimal.{plus_parts}

-- the nodes of a walk to an end node lie in the cone
pub walk_within : (cone : Cone) (end : ℕ) (ns : List ℕ) (n : ℕ) (s : ℤ) → IsCone cone → end < count_of cone
    → walk_sum ◌==◌ (delay_between cone) end n ns ≡ Some s → (n < count_of cone) × All (λ m. m < count_of cone) ns
walk_within cone end [] n s good low e =
    let at : n ≡ end = eqb-true n end (cond_some (n == end) (pos 0) s e).0 in
    (omega arith, All-nil (λ m. m < count_of cone))
walk_within cone end (m ∷ ns) n s good low e =
    let parts = plus_parts (delay_between cone n m) (walk_sum ◌==◌ (delay_between cone) end m ns) s e in
    let rest = walk_within cone end ns m parts.y good low parts.right in (
      (delay_there cone m n (arcs_into cone m) parts.x (arcs_there cone m good rest.0) parts.left).1,
      All-cons (λ m. m < count_of cone) m ns rest.0 rest.1,
    )

-- the numbers below `count` stand for nodes: tests and delays agree, and each node with an arc into
-- a node that has a number has a number
pub record AreNumbers {N : Type 0} (same : N → N → Bool) (look : N → N → Option ℤ) (count : ℕ) (name : ℕ → N) (delay : ℕ → ℕ → Option ℤ) : Type 0 where
  pub tests : (a b : ℕ) → a < count → b < count → same (name a) (name b) ≡ (a == b)
  pub looks : (a b : ℕ) → a < count → b < count → look (name a) (name b) ≡ delay a b
  pub decides : (n : N) (b : ℕ) → b < count → same n (name b) ≡ true → n ≡ name b
  pub closed : (n : N) (b : ℕ) (d : ℤ) → b < count → look n (name b) ≡ Some d → (a : ℕ) × (a < count) × (n ≡ name a)

-- a list of nodes that are the names of numbers
pub record Numbered {N : Type 0} (name : ℕ → N) (count : ℕ) (n : N) (ms : List N) : Type 0 where
  pub first : ℕ
  pub rest : List ℕ
  pub low : first < count
  pub lows : All (λ m. m < count) rest
  pub first_is : n ≡ name first
  pub rest_is : ms ≡ map name rest

module _ {N : Type 0} (same : N → N → Bool) (look : N → N → Option ℤ) (count : ℕ) (name : ℕ → N) (delay : ℕ → ℕ → Option ℤ)
    (numbers : AreNumbers same look count name delay) (end : ℕ) (there : end < count) where
  -- the walk of the names is the walk of the numbers
  pub walk_named : (ms : List ℕ) (n : ℕ) → n < count → All (λ m. m < count) ms
      → walk_sum same look (name end) (name n) (map name ms) ≡ walk_sum ◌==◌ delay end n ms
  walk_named [] n low lows = ap (λ b. if b then Some (pos 0) else None) (numbers.tests n end low there)
  walk_named (m ∷ ms) n low lows =
      let here : m < count = All-head (λ m. m < count) m ms lows in
      let rest = walk_named ms m here (All-tail (λ m. m < count) m ms lows) in
      ap (λ o. plus_some o (walk_sum same look (name end) (name m) (map name ms))) (numbers.looks n m low here)
      ∙ ap (plus_some (delay n m)) rest

  -- each walk over nodes is one of names
  pub walk_numbered : (ms : List N) (n : N) (s : ℤ) → walk_sum same look (name end) n ms ≡ Some s → Numbered name count n ms
  walk_numbered [] n s e =
      let at = cond_some (same n (name end)) (pos 0) s e in
      record { first = end; rest = []; low = there; lows = All-nil (λ m. m < count); first_is = numbers.decides n end there at.0; rest_is = refl }
  walk_numbered (m ∷ ms) n s e =
      let parts = plus_parts (look n m) (walk_sum same look (name end) m ms) s e in
      let more = walk_numbered ms m parts.y parts.right in
      let from = numbers.closed n more.first parts.x more.low (ap (look n) (sym more.first_is) ∙ parts.left) in
      record {
        first = from.0;
        rest = more.first ∷ more.rest;
        low = from.1;
        lows = All-cons (λ m. m < count) more.first more.rest more.low more.lows;
        first_is = from.2;
        rest_is = ap (λ x. x ∷ ms) more.first_is ∙ ap (λ xs. name more.first ∷ xs) more.rest_is;
      }

-- a walk to an end node, by its sum and its last node apart
module _ {N : Type 0} (same : N → N → Bool) (look : N → N → Option ℤ) (sum : N → List N → Option ℤ) (last : N → List N → N) (end : N)
    (sum_nil : (n : N) → sum n [] ≡ Some (pos 0)) (sum_more : (n m : N) (ms : List N) → sum n (m ∷ ms) ≡ plus_some (look n m) (sum m ms))
    (last_nil : (n : N) → last n [] ≡ n) (last_more : (n m : N) (ms : List N) → last n (m ∷ ms) ≡ last m ms) where
  plus_cond : (b : Bool) (o p : Option ℤ) → plus_some o (if b then p else None) ≡ (if b then plus_some o p else None)
  plus_cond true o p = refl
  plus_cond false None p = refl
  plus_cond false (Some x) p = refl

  pub walk_apart : (ms : List N) (n : N) → walk_sum same look end n ms ≡ (if same (last n ms) end then sum n ms else None)
  walk_apart [] n =
      ap (λ m. if same m end then Some (pos 0) else None) (sym (last_nil n))
      ∙ ap (λ o. if same (last n []) end then o else None) (sym (sum_nil n))
  walk_apart (m ∷ ms) n =
      ap (plus_some (look n m)) (walk_apart ms m)
      ∙ plus_cond (same (last m ms) end) (look n m) (sum m ms)
      ∙ ap (λ o. if same (last m ms) end then o else None) (sym (sum_more n m ms))
      ∙ ap (λ l. if same l end then sum n (m ∷ ms) else None) (sym (last_more n m ms))

-- lists of nodes are ordered as the lists of their ranks
module _ {N : Type 0} (cmp : N → N → Ordering) (rank : N → ℕ) (P : N → Type 0)
    (ranked : (x y : N) → P x → P y → cmp x y ≡ nat_cmp (rank x) (rank y)) where
  pub cmp_ranked : (xs ys : List N) → All P xs → All P ys → slice_cmp cmp xs ys ≡ slice_cmp nat_cmp (map rank xs) (map rank ys)
  cmp_ranked [] [] p q = refl
  cmp_ranked [] (y ∷ ys) p q = refl
  cmp_ranked (x ∷ xs) [] p q = refl
  cmp_ranked (x ∷ xs) (y ∷ ys) p q =
      ap (λ o. ordering_then o (slice_cmp cmp xs ys)) (ranked x y (All-head P x xs p) (All-head P y ys q))
      ∙ ap (ordering_then (nat_cmp (rank x) (rank y))) (cmp_ranked xs ys (All-tail P x xs p) (All-tail P y ys q))

-- the same by the ranks of numbers: what is named compares as the ranks
module _ {N : Type 0} (cmp : N → N → Ordering) (name : ℕ → N) (rank : ℕ → ℕ) (count : ℕ)
    (ranked : (a b : ℕ) → a < count → b < count → cmp (name a) (name b) ≡ nat_cmp (rank a) (rank b)) where
  pub cmp_named : (ms ns : List ℕ) → All (λ m. m < count) ms → All (λ n. n < count) ns
      → slice_cmp cmp (map name ms) (map name ns) ≡ slice_cmp nat_cmp (map rank ms) (map rank ns)
  cmp_named [] [] p q = refl
  cmp_named [] (n ∷ ns) p q = refl
  cmp_named (m ∷ ms) [] p q = refl
  cmp_named (m ∷ ms) (n ∷ ns) p q =
      ap (λ o. ordering_then o (slice_cmp cmp (map name ms) (map name ns)))
      (ranked m n (All-head (λ m. m < count) m ms p) (All-head (λ n. n < count) n ns q))
      ∙ ap (ordering_then (nat_cmp (rank m) (rank n)))
      (cmp_named ms ns (All-tail (λ m. m < count) m ms p) (All-tail (λ n. n < count) n ns q))

-- and the ranks of numbers are those of their names
pub ranks_named : {N : Type 0} (name : ℕ → N) (rank : ℕ → ℕ) (place : N → ℕ) (count : ℕ) → ((n : ℕ) → n < count → rank n ≡ place (name n))
    → (ns : List ℕ) → All (λ n. n < count) ns → map rank ns ≡ map place (map name ns)
ranks_named name rank place count h [] lows = refl
ranks_named name rank place count h (n ∷ ns) lows =
    ap (λ r. r ∷ map rank ns) (h n (All-head (λ n. n < count) n ns lows))
    ∙ ap (λ rs. place (name n) ∷ rs) (ranks_named name rank place count h ns (All-tail (λ n. n < count) n ns lows))
