use Rattle.std.proofs.Common.{◌≡◌, drop}
use Rattle.std.specs.Prelude.{All}
use Rattle.worst_walks.specs.Tables.{pushed, IsKnown}
use Rattle.worst_walks.proofs.tables.push_arcs.Given as goal

abbrev pub invariant-loop-arc : goal.invariant-loop-arc
invariant-loop-arc g l =
    record {
      known : All (IsKnown (g.O.WalkOrder.count l.order)) l.rows;
      pushes : pushed (g.O.WalkOrder.rank l.order) l.node l.after l.rows (drop l.arc-index l.arcs) ≡ pushed (g.O.WalkOrder.rank l.order) l.node l.after l.initial.rows l.arcs;
    }
