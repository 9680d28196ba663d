-- Sums along the first nodes of a walk.

use Rattle.std.proofs.Common.{◌≡◌, ℕ, ◌+◌, ◌*◌, ◌^◌, ◌<◌, ◌≤◌, ℤ, pos, ◌+ℤ◌, ◌==◌, List, [], ◌∷◌, ◌++◌, Option, Some, None, refl, sym, ap, ◌∙◌, arith}
use Rattle.std.specs.Prelude.{unsigned_abs}
use Rattle.std.proofs.lemmas.Int.{ints}
use Rattle.std.proofs.lemmas.Option.{same_Some, cond_some}
use Rattle.timing_defs.specs.RowTimes.{plus_some}
use Rattle.worst_walks.specs.declared.cones.Cone.{Cone}
use Rattle.worst_walks.specs.Walks.{count_of, arcs_into, delay_between, walk_sum, IsCone}
use Rattle.worst_walks.proofs.Filling.{arcs_there, delay_there}
use Rattle.worst_walks.proofs.Naming.{walk_within}
use Rattle.worst_walks.proofs.Optimal.{plus_parts}
use Rattle.ranked_walks.specs.Branches.{path_sum, last_of}

plus_zero : (o : Option ℤ) → plus_some (Some (pos 0)) o ≡ o
plus_zero None = refl
plus_zero (Some x) = ap Some (omega (arith, ints))

plus_along : (a b c : Option ℤ) → plus_some a (plus_some b c) ≡ plus_some (plus_some a b) c
plus_along None b c = refl
plus_along (Some x) None c = refl
plus_along (Some x) (Some y) None = refl
plus_along (Some x) (Some y) (Some z) = ap Some (omega (arith, ints))

module _ (cone : Cone) (end : ℕ) where
  abbrev sum_from : ℕ → List ℕ → Option ℤ
  sum_from n ns = walk_sum ◌==◌ (delay_between cone) end n ns

  -- a walk by its first nodes and the others
  pub parted : (n : ℕ) (ps ns : List ℕ) → walk_sum ◌==◌ (delay_between cone) end n (ps ++ ns)
      ≡ plus_some (path_sum cone n ps) (walk_sum ◌==◌ (delay_between cone) end (last_of n ps) ns)
  parted n [] ns = sym (plus_zero (sum_from n ns))
  parted n (p ∷ ps) ns = ap (plus_some (delay_between cone n p)) (parted p ps ns) ∙ plus_along (delay_between cone n p) (path_sum cone p ps) (sum_from (last_of p ps) ns)

  -- a sum of at most as many delays as the number of the first node
  pub sum_bound : (n : ℕ) (ns : List ℕ) (s : ℤ) → IsCone cone → end < count_of cone → sum_from n ns ≡ Some s → unsigned_abs s ≤ n * 10 ^ 12
  sum_bound n [] s good low e =
      let is = (cond_some (n == end) (pos 0) s e).1 in omega (arith, ints)
  sum_bound n (m ∷ ns) s good low e =
      let parts = plus_parts (delay_between cone n m) (sum_from m ns) s e in
      let rest = sum_bound m ns parts.y good low parts.right in
      let within = walk_within cone end ns m parts.y good low parts.right in
      let arc = delay_there cone m n (arcs_into cone m) parts.x (arcs_there cone m good within.0) parts.left in
      let above = arc.0 in
      let small = arc.2 in
      let is = parts.is in
      omega (arith, ints)

  -- of the nodes before one from which a walk leads on
  pub path_bound : (n : ℕ) (ps ns : List ℕ) (x t : ℤ) → IsCone cone → end < count_of cone → path_sum cone n ps ≡ Some x → sum_from (last_of n ps) ns ≡ Some t
      → (last_of n ps ≤ n) × (unsigned_abs x + last_of n ps * 10 ^ 12 ≤ n * 10 ^ 12)
  path_bound n [] ns x t good low e f = let is = same_Some (pos 0) x e in (omega arith, omega (arith, ints))
  path_bound n (p ∷ ps) ns x t good low e f =
      let parts = plus_parts (delay_between cone n p) (path_sum cone p ps) x e in
      let rest = path_bound p ps ns parts.y t good low parts.right f in
      let whole : sum_from p (ps ++ ns) ≡ Some (parts.y +ℤ t) = parted p ps ns ∙ ap (λ o. plus_some o (sum_from (last_of p ps) ns)) parts.right ∙ ap (plus_some (Some parts.y)) f in
      let within = walk_within cone end (ps ++ ns) p (parts.y +ℤ t) good low whole in
      let arc = delay_there cone p n (arcs_into cone p) parts.x (arcs_there cone p good within.0) parts.left in
      let above = arc.0 in
      let small = arc.2 in
      let is = parts.is in
      let under = rest.0 in
      let bound = rest.1 in
      (omega arith, omega (arith, ints))
