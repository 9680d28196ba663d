use Rattle.std.proofs.Common.{◌≡◌, drop, None}
use Rattle.worst_walks.specs.Tables.{IsKnown}
use Rattle.ranked_walks.specs.Outs.{best_free}
use Rattle.ranked_walks.proofs.outs.best_free.Given as goal

abbrev pub invariant-loop-arc : goal.invariant-loop-arc
invariant-loop-arc g l =
    record {
      known : IsKnown (g.O.WalkOrder.count l.order) l.best;
      folds : best_free (g.O.WalkOrder.rank l.order) l.rows l.barred l.best (drop l.arc-index l.arcs) ≡ best_free (g.O.WalkOrder.rank l.order) l.rows l.barred None l.arcs;
    }
