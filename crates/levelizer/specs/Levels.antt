-- Levels and cycles of a graph over numbered nodes: levelized order as in static timing analysis
-- (the longest walk from a node without arcs in; Kahn 1962 for the order).

use Rattle.std.specs.Prelude.{◌≡◌, ℕ, ◌+◌, ◌<◌, ◌==◌, nat_eq, max, List, [], ◌∷◌, ◌++◌, map, filter, length, slice_index, All, Contains}
use Rattle.std.specs.List.{IsDistinct}
use Rattle.levelizer.specs.declared.links.Link.{Link}
use Rattle.levelizer.specs.declared.faults.LevelFault.{LevelFault}
use Rattle.levelizer.specs.declared.faults.LevelFault.TheVariants.{Cycle, Memory}

-- each arc joins two nodes below `n`
abbrev pub AreWithin : ℕ → List Link → Type 0
AreWithin n arcs = All (λ arc. (arc.from < n) × (arc.to < n)) arcs

-- the nodes from which an arc leads to a node
abbrev pub fan_in : List Link → ℕ → List ℕ
fan_in arcs node = map (λ arc. arc.from) (filter (λ arc. arc.to == node) arcs)

-- the greatest of some numbers, 0 of none
abbrev pub greatest : List ℕ → ℕ
greatest [] = 0
greatest (x ∷ xs) = max x (greatest xs)

-- each node below `n` has a level: 0 without arcs in, else one more than its greatest predecessor's
pub record AreLevels (n : ℕ) (arcs : List Link) (levels : List ℕ) : Type 0 where
  pub count : length levels ≡ n
  pub level : (node : ℕ) → node < n → slice_index levels node ≡ greatest (map (λ from. slice_index levels from + 1) (fan_in arcs node))

-- an arc leads from one node to the other
abbrev pub IsJoined : List Link → ℕ → ℕ → Type 0
IsJoined arcs from to = Contains arcs (record { from = from; to = to })

-- a walk: an arc leads from each node to the next
abbrev pub IsWalk : List Link → ℕ → List ℕ → Type 0
IsWalk arcs first [] = Unit {0}
IsWalk arcs first (next ∷ more) = IsJoined arcs first next × IsWalk arcs next more

-- a cycle: distinct nodes in arc order, with an arc from the last to the first
abbrev pub IsCycle : List Link → List ℕ → Type 0
IsCycle arcs [] = ⊥
IsCycle arcs (first ∷ more) = IsDistinct nat_eq (first ∷ more) × IsWalk arcs first (more ++ first ∷ [])

-- there is no cycle
abbrev pub HasNoCycle : List Link → Type 0
HasNoCycle arcs = (nodes : List ℕ) → IsCycle arcs nodes → ⊥

-- what a refusal says: a cycle where it names one; want of memory says nothing
abbrev pub IsTrueFault : List Link → LevelFault → Type 0
IsTrueFault arcs (Cycle nodes) = IsCycle arcs nodes
IsTrueFault arcs Memory = Unit {0}
