-- What a search over launches and ends has found when it has seen some of them.

use Rattle.std.specs.Prelude.{◌≡◌, ℕ, ◌<◌, ℤ, List, Option, None, Some, IsSome, All}
use Rattle.worst_walks.specs.declared.cones.Cone.{Cone}
use Rattle.worst_walks.specs.declared.cones.Walk.{Walk}
use Rattle.worst_walks.specs.declared.tables.Entry.{Entry}
use Rattle.worst_walks.specs.Walks.{IsWalk}
use Rattle.worst_walks.specs.Tables.{row_in}

-- a walk to the end at a place; to an end before a place
abbrev pub IsTo : Cone → ℕ → Walk → Type 0
IsTo cone place walk = IsWalk cone walk × (walk.end ≡ place)

abbrev pub IsBefore : Cone → ℕ → Walk → Type 0
IsBefore cone place walk = IsWalk cone walk × (walk.end < place)

-- the slack of such a walk
abbrev pub IsSlackTo : Cone → ℕ → ℤ → Type 0
IsSlackTo cone place s = (walk : Walk) × (IsTo cone place walk × (walk.slack ≡ s))

-- a walk of this slack from the launch at a place; from a launch before a place
abbrev pub IsTied : Cone → ℕ → ℤ → ℕ → Walk → Type 0
IsTied cone place s launch walk = IsTo cone place walk × (walk.slack ≡ s) × (walk.launch ≡ launch)

abbrev pub IsTiedBefore : Cone → ℕ → ℤ → ℕ → Walk → Type 0
IsTiedBefore cone place s launch walk = IsTo cone place walk × (walk.slack ≡ s) × (walk.launch < launch)

-- each entry but that of the end node leads to a lower node with an entry
abbrev pub IsFalling : List (Option Entry) → ℕ → Type 0
IsFalling rows end =
    (n : ℕ) (entry : Entry) → (n ≡ end → ⊥) → row_in rows n ≡ Some entry → (entry.next < n) × IsSome (row_in rows entry.next)

-- the nodes of a walk lie below a number
abbrev pub AreKnown : ℕ → Option Walk → Type 0
AreKnown count None = Unit {0}
AreKnown count (Some walk) = All (λ n. n < count) walk.nodes
