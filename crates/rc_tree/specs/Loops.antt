-- What a step in the growth of a forest keeps, and when it finds a loop.

use Rattle.std.specs.Prelude.{ℕ, ◌≡◌, ◌⊎◌, ◌<◌, get_or, Bool, true, List, [], ◌∷◌, map, length, is_some}
use Rattle.std.specs.List.{list_any, AllByRecursion}
use Rattle.timing_defs.specs.declared.parasitics.RcNode.{RcNode}
use Rattle.timing_defs.specs.declared.parasitics.RcRes.{RcRes}
use Rattle.timing_defs.specs.Wires.{each_with_rest, path_between}
use Rattle.rc_tree.specs.declared.segments.Segment.{Segment}
use Rattle.rc_tree.specs.declared.forests.Forest.{Forest}
use Rattle.rc_tree.specs.declared.faults.RcFault.{RcFault}
use Rattle.rc_tree.specs.declared.faults.RcFault.TheVariants.{Loop, Memory}
use Rattle.rc_tree.specs.Numbering.{AreApart}
use Rattle.rc_tree.specs.Growth.{wired, segment_at, row_at, Touches, IsGrown, IsSpread, IsRecent, place_of, IsUsed, IsLonger, IsDone}

-- an element of a list
abbrev pub IsAmong : ℕ → List ℕ → Type 0
IsAmong k [] = ⊥
IsAmong k (j ∷ js) = (k ≡ j) ⊎ IsAmong k js

-- resistors of which one closes a loop
abbrev pub is_looped : List RcRes → Bool
is_looped ress = list_any (λ (r, rest). is_some (path_between rest r.a r.b)) (each_with_rest [] ress)

-- want of memory, or a loop that is there, whatever the nodes are called
abbrev pub IsLoopOf : List Segment → ℕ → RcFault → Type 0
IsLoopOf segments count fault =
    (fault ≡ Memory) ⊎ ((fault ≡ Loop) × ((nodes : List RcNode) → AreApart nodes → length nodes ≡ count → is_looped (map (wired nodes) segments) ≡ true))

-- segments between nodes below a count
abbrev pub IsReady : List Segment → ℕ → Type 0
IsReady segments count = AllByRecursion (λ s. (s.a < count) × (s.b < count)) segments

-- a forest in which the places before `h` are done, and those from `h` on are of the part of `h`
pub record IsPart (segments : List Segment) (count h home : ℕ) (f : Forest) : Type 0 where
  pub grown : IsGrown segments count f
  pub spread : IsSpread segments h f
  pub recent : IsRecent h home f

-- a step at the place `h` keeps all that, and rows stay
pub record IsGrownBy (segments : List Segment) (count h home : ℕ) (old new : Forest) : Type 0 where
  pub part : IsPart segments count h home new
  pub longer : IsLonger old new

-- after a segment at the place `h` was looked at, it leads to a parent
abbrev pub IsVisited : List Segment → ℕ → ℕ → ℕ → ℕ → Forest → Forest → Type 0
IsVisited segments count h home k old new =
    IsGrownBy segments count h home old new × (Touches (segment_at segments k) (row_at old.rows.items h).node → IsUsed new.rows.items k)

-- the segments of which a node's list tells, and that it tells of all at the node
abbrev pub AreIndexes : List Segment → List ℕ → Type 0
AreIndexes segments ks = AllByRecursion (λ k. k < length segments) ks

pub record AreIndexed (segments : List Segment) (links : List (List ℕ)) : Type 0 where
  pub inside : AllByRecursion (AreIndexes segments) links
  pub all : (k u : ℕ) → k < length segments → Touches (segment_at segments k) u → IsAmong k (get_or links u [])

pub record AreVisited (segments : List Segment) (count h home : ℕ) (ks : List ℕ) (old new : Forest) : Type 0 where
  pub grown : IsGrownBy segments count h home old new
  pub used : (k : ℕ) → IsAmong k ks → Touches (segment_at segments k) (row_at old.rows.items h).node → IsUsed new.rows.items k

-- one node more has a place, and what had one keeps it
pub record IsFurther (segments : List Segment) (count node : ℕ) (old new : Forest) : Type 0 where
  pub done : IsDone segments count new
  pub longer : IsLonger old new
  pub there : is_some (place_of new node) ≡ true
  pub first : length old.rows.items ≡ 0 → (row_at new.rows.items 0).node ≡ node

-- each node has a place, and each segment leads to a parent; the node 0 is first
pub record IsFound (segments : List Segment) (count : ℕ) (f : Forest) : Type 0 where
  pub grown : IsGrown segments count f
  pub used : (k : ℕ) → k < length segments → IsUsed f.rows.items k
  pub all : (u : ℕ) → u < count → is_some (place_of f u) ≡ true
  pub first : 0 < count → (row_at f.rows.items 0).node ≡ 0
