use Rattle.std.proofs.Common.{ℕ, ◌≡◌, ◌&&◌, ◌||◌, take}
use Rattle.std.specs.List.{list_any}
use Rattle.level_cone.specs.Waiting.{waits}
use Rattle.level_cone.specs.Cone.{stands_in}
use Rattle.pin_graph.specs.Graphs.{level_at}
use Rattle.pin_graph.specs.RowTables.{row_numbered}
use Rattle.arrival_engine.specs.Updated.{is_moved, heads_of}
use Rattle.arrival_engine.proofs.updates.wait_after_all.Given as goal

abbrev pub invariant-loop-at : goal.invariant-loop-at
invariant-loop-at l = (k n : ℕ) → waits l.waiting k n ≡ (waits l.fn.waiting k n
    || list_any (λ m. is_moved l.base.stored l.rows m (row_numbered l.graph.stored m) && stands_in (level_at l.graph) (heads_of l.graph m) k n) (take l.at l.nodes))
