-- What a split needs of a walk and the tables: nodes that are there and sums in range.

use Rattle.std.specs.Prelude.{ℕ, zero, suc, ◌+◌, ◌*◌, ◌^◌, ◌<◌, ◌≤◌, ℤ, ◌+ℤ◌, ◌-ℤ◌, unsigned_abs, ⊤, [], ◌∷◌, ◌++◌, length, Option, Some, None}
use Rattle.worst_walks.specs.declared.cones.Cone.{Cone}
use Rattle.worst_walks.specs.declared.cones.Walk.{Walk}
use Rattle.worst_walks.specs.declared.tables.Entry.{Entry}
use Rattle.worst_walks.specs.Walks.{count_of}
use Rattle.worst_walks.specs.Tables.{row_in}
use Rattle.ranked_walks.specs.declared.branches.Branch.{Branch}
use Rattle.ranked_walks.specs.declared.branches.Tables.{Tables}
use Rattle.ranked_walks.specs.Outs.{best_free, outs_in, rows_at}
use Rattle.ranked_walks.specs.Searching.{room_by, node_at}

-- a slack and a room in range
abbrev pub IsFine : ℤ → Option Entry → Type 0
IsFine room None = ⊤
IsFine room (Some entry) = unsigned_abs (room -ℤ entry.total) ≤ 9 * 10 ^ 18

abbrev pub IsRoomy : ℤ → Option Entry → Type 0
IsRoomy slack None = ⊤
IsRoomy slack (Some entry) = unsigned_abs (slack +ℤ entry.total) ≤ 9 * 10 ^ 18

pub record IsFit (rank : ℕ → ℕ) (cone : Cone) (tables : Tables) (walk : Walk) (last : ℕ) : Type 0 where
  pub end : walk.end < length cone.ends
  pub more : last + 1 < length walk.nodes
  pub node : node_at walk last < count_of cone
  pub room : IsRoomy walk.slack (row_in (rows_at tables walk.end) (node_at walk last))
  pub fine : IsFine (room_by walk.slack (row_in (rows_at tables walk.end) (node_at walk last)))
      (best_free rank (rows_at tables walk.end) (node_at walk (last + 1) ∷ []) None (outs_in tables.outs (node_at walk last)))

-- the same for the nodes that a branch keeps, where it keeps some
pub record IsKeptFit (rank : ℕ → ℕ) (cone : Cone) (tables : Tables) (walk : Walk) (b : Branch) (last : ℕ) : Type 0 where
  pub end : b.end < length cone.ends
  pub more : last + 1 < length walk.nodes
  pub node : node_at walk last < count_of cone
  pub fine : IsFine b.room (best_free rank (rows_at tables b.end) (b.barred ++ node_at walk (last + 1) ∷ []) None (outs_in tables.outs (node_at walk last)))

abbrev pub IsAgainFit : (ℕ → ℕ) → Cone → Tables → Walk → Branch → ℕ → Type 0
IsAgainFit rank cone tables walk b zero = ⊤
IsAgainFit rank cone tables walk b (suc last) = IsKeptFit rank cone tables walk b last
