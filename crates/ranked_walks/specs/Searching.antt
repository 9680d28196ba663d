-- Where a search for the first walks stands between two walks.

use Rattle.std.specs.Prelude.{◌≡◌, ◌≢◌, ℕ, zero, suc, ◌<◌, ◌≤◌, ℤ, ◌+ℤ◌, ⊤, ◌⊎◌, Bool, false, List, [], ◌∷◌, ◌++◌, length, take, drop, slice_get, slice_index, Option, Some, None}
use Rattle.std.specs.List.{AllByRecursion}
use Rattle.timing_defs.specs.Firsts.{AreFirst}
use Rattle.worst_walks.specs.declared.cones.Launch.{Launch}
use Rattle.worst_walks.specs.declared.cones.WalkEnd.{WalkEnd}
use Rattle.worst_walks.specs.declared.cones.Cone.{Cone}
use Rattle.worst_walks.specs.declared.cones.Walk.{Walk}
use Rattle.worst_walks.specs.declared.tables.Entry.{Entry}
use Rattle.worst_walks.specs.Best.{BestOf}
use Rattle.worst_walks.specs.Walks.{comes_before, IsWalk}
use Rattle.worst_walks.specs.Tables.{row_in, Traces}
use Rattle.ranked_walks.specs.declared.branches.Branch.{Branch}
use Rattle.ranked_walks.specs.declared.branches.Tables.{Tables}
use Rattle.ranked_walks.specs.Branches.{branch_by, kept_of, nodes_in, InBranch, IsShown, IsStem}
use Rattle.ranked_walks.specs.Outs.{best_free, outs_in, rows_at}

-- other than each of a list
abbrev pub IsLeft : {X : Type 0} → List X → X → Type 0
IsLeft [] y = ⊤
IsLeft (x ∷ xs) y = (y ≢ x) × IsLeft xs y

-- a claim holds of one of a list
abbrev pub HasOne : {X : Type 0} → (X → Type 0) → List X → Type 0
HasOne P [] = ⊥
HasOne P (x ∷ xs) = P x ⊎ HasOne P xs

-- the given walk whose first nodes a branch keeps
pub record IsRooted (cone : Cone) (given : List Walk) (launch : Launch) (end : ℕ) (b : Branch) : Type 0 where
  pub source : b.source < length given
  pub long : b.kept ≤ length (nodes_in (slice_get given b.source))
  pub some : 0 < b.kept
  pub node : ℕ
  pub stem : IsStem cone launch (kept_of given b) node b.room
  pub apart : node ≡ end → ⊥

-- an open branch: the walk that it leads to is the first of its class
pub record IsOpen (rank : ℕ → ℕ) (before : ℕ → List ℕ) (cone : Cone) (tables : Tables) (given : List Walk) (b : Branch) : Type 0 where
  pub end : WalkEnd
  pub launch : Launch
  pub there : slice_get cone.ends b.end ≡ Some end
  pub at : slice_get end.launches b.launch ≡ Some launch
  pub root : (b.kept ≡ 0) ⊎ IsRooted cone given launch end.node b
  pub walk : Walk
  pub shown : IsShown (rows_at tables b.end) end.node (kept_of given b) b walk
  pub best : BestOf (comes_before rank before) (InBranch cone given b) (Some walk)

-- no walk is in two classes
abbrev pub AreDisjoint : (Branch → Walk → Type 0) → List Branch → Type 0
AreDisjoint In [] = ⊤
AreDisjoint In (b ∷ bs) = ((w : Walk) → In b w → HasOne (λ c. In c w) bs → ⊥) × AreDisjoint In bs

-- the walks given are the first, and each other one is in one open branch, or of those that wait
pub record IsSearched (rank : ℕ → ℕ) (before : ℕ → List ℕ) (cone : Cone) (tables : Tables) (given : List Walk) (branches : List Branch) (waits : Walk → Type 0) : Type 0 where
  pub first : AreFirst (comes_before rank before) (length given) (IsWalk cone) given
  pub each : AllByRecursion (IsOpen rank before cone tables given) branches
  pub apart : AreDisjoint (InBranch cone given) branches
  pub left : (w : Walk) → HasOne (λ b. InBranch cone given b w) branches → IsLeft given w
  pub alone : (w : Walk) → HasOne (λ b. InBranch cone given b w) branches → waits w → ⊥
  pub covers : (w : Walk) → IsWalk cone w → IsLeft given w → HasOne (λ b. InBranch cone given b w) branches ⊎ waits w

-- none waits
abbrev pub Nothing : Walk → Type 0
Nothing w = ⊥

-- the walks to later ends than one, and to it from a launch on
abbrev pub WaitsFrom : Cone → ℕ → ℕ → Walk → Type 0
WaitsFrom cone place i w = IsWalk cone w × ((place < w.end) ⊎ ((w.end ≡ place) × (i ≤ w.launch)))

-- the walks that begin with the first nodes of a walk
pub record IsUnder (cone : Cone) (walk : Walk) (kept : ℕ) (w : Walk) : Type 0 where
  pub is : IsWalk cone w
  pub to : w.end ≡ walk.end
  pub from : w.launch ≡ walk.launch
  pub rest : List ℕ
  pub nodes : w.nodes ≡ take kept walk.nodes ++ rest

-- those of them that are left when the walk is given
abbrev pub WaitsUnder : Cone → Walk → ℕ → Walk → Type 0
WaitsUnder cone walk kept w = IsUnder cone walk kept w × (w ≢ walk)

abbrev pub node_at : Walk → ℕ → ℕ
node_at walk i = slice_index walk.nodes i

-- what a sum by the table leaves where a walk of a slack goes on by it
abbrev pub room_by : ℤ → Option Entry → ℤ
room_by slack None = slack
room_by slack (Some entry) = slack +ℤ entry.total

-- the branch of the walks that part from a walk behind its first nodes, one more than `last`
abbrev pub part_by : (ℕ → ℕ) → Tables → Walk → ℕ → ℕ → Option Branch
part_by rank tables walk source last =
    branch_by walk.end walk.launch source (suc last) (room_by walk.slack (row_in (rows_at tables walk.end) (node_at walk last))) (node_at walk (suc last) ∷ [])
    (best_free rank (rows_at tables walk.end) (node_at walk (suc last) ∷ []) None (outs_in tables.outs (node_at walk last)))

-- and that of the walks of a branch that part from its walk behind the nodes that it keeps
abbrev pub again_kept : (ℕ → ℕ) → Tables → Walk → ℕ → Branch → ℕ → Option Branch
again_kept rank tables walk source b zero = None
again_kept rank tables walk source b (suc last) =
    branch_by b.end b.launch source (suc last) b.room (b.barred ++ node_at walk (suc last) ∷ [])
    (best_free rank (rows_at tables b.end) (b.barred ++ node_at walk (suc last) ∷ []) None (outs_in tables.outs (node_at walk last)))

abbrev pub made_list : Option Branch → List Branch
made_list None = []
made_list (Some b) = b ∷ []

-- a walk given goes on by the table behind its first nodes, one more than `last`; what begins with
-- these was not given before, and is of the walks that wait
pub record IsSplitting (rank : ℕ → ℕ) (before : ℕ → List ℕ) (cone : Cone) (tables : Tables) (given : List Walk) (walk : Walk) (branches : List Branch) (last : ℕ) : Type 0 where
  pub end : WalkEnd
  pub launch : Launch
  pub there : slice_get cone.ends walk.end ≡ Some end
  pub at : slice_get end.launches walk.launch ≡ Some launch
  pub is : IsWalk cone walk
  pub within : last < length walk.nodes
  pub traces : Traces (rows_at tables walk.end) end.node (node_at walk last) (drop (suc last) walk.nodes)
  pub left : (w : Walk) → IsUnder cone walk (suc last) w → IsLeft given w
  pub searched : IsSearched rank before cone tables (given ++ walk ∷ []) branches (WaitsUnder cone walk (suc last))

-- the walks of a branch but its first
abbrev pub WaitsIn : Cone → List Walk → Branch → Walk → Walk → Type 0
WaitsIn cone given b walk w = InBranch cone given b w × (w ≢ walk)

-- a branch is taken out, and its first walk is the next to be given
pub record IsTaken (rank : ℕ → ℕ) (before : ℕ → List ℕ) (cone : Cone) (tables : Tables) (given : List Walk) (branches : List Branch) (b : Branch) (walk : Walk) : Type 0 where
  pub open_is : IsOpen rank before cone tables given b
  pub shown : IsShown (rows_at tables b.end) open_is.end.node (kept_of given b) b walk
  pub in_class : InBranch cone given b walk
  pub left : (w : Walk) → InBranch cone given b w → IsLeft given w
  pub best : (w : Walk) → IsWalk cone w → IsLeft given w → comes_before rank before w walk ≡ false
  pub searched : IsSearched rank before cone tables given branches (InBranch cone given b)

-- the walk to which a branch leads
abbrev pub IsWalkOf : Cone → Tables → List Walk → Branch → Walk → Type 0
IsWalkOf cone tables given b walk =
    (end : WalkEnd) → slice_get cone.ends b.end ≡ Some end → IsShown (rows_at tables b.end) end.node (kept_of given b) b walk

-- whether the walk of a branch comes before that of another
abbrev pub IsTold : (ℕ → ℕ) → (ℕ → List ℕ) → Cone → Tables → List Walk → Branch → Branch → Bool → Type 0
IsTold rank before cone tables given b c told =
    (v w : Walk) → IsWalkOf cone tables given b v → IsWalkOf cone tables given c w → comes_before rank before v w ≡ told

-- none of the first branches leads to a walk that comes before that of the branch at a place
pub record IsFront (rank : ℕ → ℕ) (before : ℕ → List ℕ) (cone : Cone) (tables : Tables) (given : List Walk) (branches : List Branch) (k place : ℕ) : Type 0 where
  pub low : place < length branches
  pub front : (i : ℕ) (b c : Branch) → i < k → slice_get branches i ≡ Some b → slice_get branches place ≡ Some c → IsTold rank before cone tables given b c false
