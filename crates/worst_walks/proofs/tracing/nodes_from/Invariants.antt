use Rattle.std.proofs.Common.{ℕ, List, ◌++◌}
use Rattle.std.specs.Prelude.{IsSome}
use Rattle.worst_walks.specs.Tables.{row_in, Traces, IsTrace}
use Rattle.worst_walks.proofs.tracing.nodes_from.Given as goal

abbrev pub invariant-loop-at : goal.invariant-loop-at
invariant-loop-at l =
    record {
      here : IsSome (row_in l.rows l.at);
      whole : (rest : List ℕ) → Traces l.rows l.end l.at rest → IsTrace l.rows l.end l.node (l.nodes ++ rest);
    }

abbrev pub decreases-loop-at : goal.decreases-loop-at
decreases-loop-at l = l.at
