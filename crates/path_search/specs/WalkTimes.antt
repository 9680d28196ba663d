-- The times of the nodes of a walk, along the arcs of a cone.

use Rattle.std.specs.Prelude.{ℕ, ℤ, pos, ◌+ℤ◌, List, [], ◌∷◌}
use Rattle.std.specs.Option.{unwrap_or}
use Rattle.timing_defs.specs.declared.kinds.Kind.{Kind}
use Rattle.worst_walks.specs.declared.cones.Cone.{Cone}
use Rattle.worst_walks.specs.Walks.{delay_between}
use Rattle.path_search.specs.Launches.{signed}

-- the time at a node by that at the node before it
abbrev pub time_next : Kind → Cone → ℤ → ℕ → ℕ → ℤ
time_next kind cone time n m = time +ℤ signed kind (unwrap_or (delay_between cone n m) (pos 0))

-- the times of the nodes after one, by its time
abbrev pub times_after : Kind → Cone → ℤ → ℕ → List ℕ → List ℤ
times_after kind cone time n [] = []
times_after kind cone time n (m ∷ ms) = time_next kind cone time n m ∷ times_after kind cone (time_next kind cone time n m) m ms
