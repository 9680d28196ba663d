-- Walks that pass given stops in their order: the worst path of static timing analysis through given
-- pins.

use Rattle.std.specs.Prelude.{◌≡◌, ℕ, ◌+◌, ◌==◌, Bool, true, false, ◌||◌, if◌then◌else◌, List, [], ◌∷◌, length, slice_index, slice_get, Option, Some, None}
use Rattle.worst_walks.specs.declared.cones.Cone.{Cone}
use Rattle.worst_walks.specs.declared.cones.Walk.{Walk}
use Rattle.worst_walks.specs.Walks.{IsWalk, IsAtMost}
use Rattle.through_walks.specs.declared.stops.Stop.{Stop}

-- whether a node is one of the two nodes of a stop
abbrev pub stands_at : Option Stop → ℕ → Bool
stands_at None n = false
stands_at (Some stop) n = (stop.rise == n) || (stop.fall == n)

-- how many stops are passed behind a node, where so many were passed before it; and behind some nodes
abbrev pub next_stop : List Stop → ℕ → ℕ → ℕ
next_stop stops s n = if stands_at (slice_get stops s) n then s + 1 else s

abbrev pub passed : List Stop → ℕ → List ℕ → ℕ
passed stops s [] = s
passed stops s (n ∷ ns) = passed stops (next_stop stops s n) ns

-- whether a list of nodes passes all stops; `begun` tells for each node how many are passed where a walk
-- begins at it
abbrev pub passes : List Stop → List ℕ → List ℕ → Bool
passes stops begun [] = false
passes stops begun (n ∷ ns) = passed stops (slice_index begun n) ns == length stops

abbrev pub IsThroughWalk : Cone → List Stop → List ℕ → Walk → Type 0
IsThroughWalk cone stops begun walk = IsWalk cone walk × (passes stops begun walk.nodes ≡ true)

-- the worst walk through the stops: of least slack, and of those the first by the ranks; None: there is none
abbrev pub IsWorstThrough : (ℕ → ℕ) → (ℕ → List ℕ) → Cone → List Stop → List ℕ → Option Walk → Type 0
IsWorstThrough rank before cone stops begun None = (walk : Walk) → IsThroughWalk cone stops begun walk → ⊥
IsWorstThrough rank before cone stops begun (Some worst) =
    IsThroughWalk cone stops begun worst × ((walk : Walk) → IsThroughWalk cone stops begun walk → IsAtMost rank before worst walk)
