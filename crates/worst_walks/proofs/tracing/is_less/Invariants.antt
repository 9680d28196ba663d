use Rattle.std.proofs.Common.{◌≡◌, map, drop}
use Rattle.std.specs.Ordering.{nat_cmp}
use Rattle.std.specs.Cmp.Lexicographic.{slice_cmp}
use Rattle.worst_walks.proofs.tracing.is_less.Given as goal

abbrev pub invariant-loop-place : goal.invariant-loop-place
invariant-loop-place g l =
    slice_cmp nat_cmp (map (g.O.WalkOrder.rank l.order) (drop l.place l.left)) (map (g.O.WalkOrder.rank l.order) (drop l.place l.right))
    ≡ slice_cmp nat_cmp (map (g.O.WalkOrder.rank l.order) l.left) (map (g.O.WalkOrder.rank l.order) l.right)
