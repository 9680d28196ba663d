-- Classes of walks that are not given yet: those that begin with the first nodes of a given walk and
-- part from it there.

use Rattle.std.specs.Prelude.{◌≡◌, ℕ, ◌==◌, ℤ, pos, ◌-ℤ◌, Bool, false, List, [], ◌∷◌, ◌++◌, length, take, slice_get, Option, Some, None}
use Rattle.std.specs.List.{list_any}
use Rattle.timing_defs.specs.RowTimes.{plus_some}
use Rattle.worst_walks.specs.declared.cones.Launch.{Launch}
use Rattle.worst_walks.specs.declared.cones.Cone.{Cone}
use Rattle.worst_walks.specs.declared.cones.Walk.{Walk}
use Rattle.worst_walks.specs.declared.tables.Entry.{Entry}
use Rattle.worst_walks.specs.Best.{BestOf}
use Rattle.worst_walks.specs.Walks.{delay_between, comes_before, IsWalk}
use Rattle.worst_walks.specs.Tables.{Traces}
use Rattle.ranked_walks.specs.declared.branches.Branch.{Branch}

abbrev pub is_barred : List ℕ → ℕ → Bool
is_barred barred n = list_any (λ m. m == n) barred

-- the walks from a launch to an end that begin with these nodes and go on to a node that is not barred
pub record IsOf (cone : Cone) (place launch : ℕ) (kept barred : List ℕ) (walk : Walk) : Type 0 where
  pub is : IsWalk cone walk
  pub to : walk.end ≡ place
  pub from : walk.launch ≡ launch
  pub next : ℕ
  pub rest : List ℕ
  pub nodes : walk.nodes ≡ kept ++ (next ∷ rest)
  pub free : is_barred barred next ≡ false

abbrev pub nodes_in : Option Walk → List ℕ
nodes_in None = []
nodes_in (Some walk) = walk.nodes

-- the nodes that a branch keeps of a given walk, and its class
abbrev pub kept_of : List Walk → Branch → List ℕ
kept_of given b = take b.kept (nodes_in (slice_get given b.source))

abbrev pub InBranch : Cone → List Walk → Branch → Walk → Type 0
InBranch cone given b walk = IsOf cone b.end b.launch (kept_of given b) b.barred walk

-- the walk that keeps these nodes, goes on to a branch's next node and then as the table leads
pub record IsShown (rows : List (Option Entry)) (end : ℕ) (kept : List ℕ) (b : Branch) (walk : Walk) : Type 0 where
  pub slack : walk.slack ≡ b.slack
  pub to : walk.end ≡ b.end
  pub from : walk.launch ≡ b.launch
  pub rest : List ℕ
  pub nodes : walk.nodes ≡ kept ++ (b.next ∷ rest)
  pub traces : Traces rows end b.next rest

-- the sum of the delays along nodes behind a node, and the last of these nodes
abbrev pub path_sum : Cone → ℕ → List ℕ → Option ℤ
path_sum cone n [] = Some (pos 0)
path_sum cone n (m ∷ ms) = plus_some (delay_between cone n m) (path_sum cone m ms)

abbrev pub last_of : ℕ → List ℕ → ℕ
last_of n [] = n
last_of n (m ∷ ms) = last_of m ms

-- nodes along arcs from a launch's node to a node, and what they leave of the offer
pub record IsStem (cone : Cone) (launch : Launch) (kept : List ℕ) (node : ℕ) (room : ℤ) : Type 0 where
  pub rest : List ℕ
  pub sum : ℤ
  pub whole : kept ≡ launch.node ∷ rest
  pub adds : path_sum cone launch.node rest ≡ Some sum
  pub last : last_of launch.node rest ≡ node
  pub leaves : launch.offer -ℤ sum ≡ room

-- the branch of a class, with the first of its walks; none: there is no such walk
pub record IsFirst (rank : ℕ → ℕ) (before : ℕ → List ℕ) (cone : Cone) (rows : List (Option Entry)) (end place launch : ℕ) (kept barred : List ℕ) (b : Branch) : Type 0 where
  pub to : b.end ≡ place
  pub from : b.launch ≡ launch
  pub bars : b.barred ≡ barred
  pub long : b.kept ≡ length kept
  pub walk : Walk
  pub shown : IsShown rows end kept b walk
  pub best : BestOf (comes_before rank before) (IsOf cone place launch kept barred) (Some walk)

abbrev pub IsBranched : (ℕ → ℕ) → (ℕ → List ℕ) → Cone → List (Option Entry) → ℕ → ℕ → ℕ → List ℕ → List ℕ → Option Branch → Type 0
IsBranched rank before cone rows end place launch kept barred None = BestOf (comes_before rank before) (IsOf cone place launch kept barred) None
IsBranched rank before cone rows end place launch kept barred (Some b) = IsFirst rank before cone rows end place launch kept barred b

-- the branch that an entry by an arc out of the last kept node makes, and that which the entry of a launch's node makes
abbrev pub branch_by : ℕ → ℕ → ℕ → ℕ → ℤ → List ℕ → Option Entry → Option Branch
branch_by place launch source kept room barred None = None
branch_by place launch source kept room barred (Some entry) =
    Some (record { slack = room -ℤ entry.total; room = room; end = place; launch = launch; source = source; kept = kept; next = entry.next; barred = barred })

abbrev pub start_by : ℕ → ℕ → Launch → Option Entry → Option Branch
start_by place i launch None = None
start_by place i launch (Some entry) =
    Some (record { slack = launch.offer -ℤ entry.total; room = launch.offer; end = place; launch = i; source = 0; kept = 0; next = launch.node; barred = [] })
