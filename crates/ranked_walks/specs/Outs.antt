-- The arcs out of the nodes of a cone, and the best way on by one of them.

use Rattle.std.specs.Prelude.{◌≡◌, ℕ, zero, suc, ◌<◌, ℤ, if◌then◌else◌, List, [], ◌∷◌, ◌++◌, length, slice_get, slice_index_or, slice_set, Option, Some, None}
use Rattle.sta_units.specs.Numbers.{Within}
use Rattle.worst_walks.specs.declared.cones.WalkArc.{WalkArc}
use Rattle.worst_walks.specs.declared.cones.WalkEnd.{WalkEnd}
use Rattle.worst_walks.specs.declared.cones.Cone.{Cone}
use Rattle.worst_walks.specs.declared.tables.Entry.{Entry}
use Rattle.worst_walks.specs.Best.{better}
use Rattle.worst_walks.specs.Walks.{count_of, delay_between}
use Rattle.worst_walks.specs.Tables.{row_in, ahead, through, IsTable}
use Rattle.ranked_walks.specs.declared.branches.OutArc.{OutArc}
use Rattle.ranked_walks.specs.declared.branches.Tables.{Tables}
use Rattle.ranked_walks.specs.Branches.{is_barred}

-- the arcs out of a node to the nodes below a number, by rising numbers
abbrev pub arc_to : ℕ → Option ℤ → List OutArc
arc_to m None = []
arc_to m (Some delay) = record { to = m; delay = delay } ∷ []

abbrev pub outs_below : Cone → ℕ → ℕ → List OutArc
outs_below cone n zero = []
outs_below cone n (suc k) = outs_below cone n k ++ arc_to k (delay_between cone n k)

abbrev pub outs_in : List (List OutArc) → ℕ → List OutArc
outs_in outs n = slice_index_or outs n []

-- the lists after the arcs into a node
abbrev pub listed : ℕ → List (List OutArc) → List WalkArc → List (List OutArc)
listed node outs [] = outs
listed node outs (arc ∷ arcs) = listed node (slice_set outs arc.from (outs_in outs arc.from ++ record { to = node; delay = arc.delay } ∷ [])) arcs

pub record AreListed (cone : Cone) (k : ℕ) (outs : List (List OutArc)) : Type 0 where
  pub long : length outs ≡ count_of cone
  pub each : (n : ℕ) → n < count_of cone → outs_in outs n ≡ outs_below cone n k

-- an arc to a node below a number, with a delay of at most `10^12` fs
abbrev pub IsOut : ℕ → OutArc → Type 0
IsOut count arc = (arc.to < count) × Within arc.delay

-- the entry by an arc out, where its node is not barred; the best of these
abbrev pub free_entry : List (Option Entry) → List ℕ → OutArc → Option Entry
free_entry rows barred arc = if is_barred barred arc.to then None else through arc.to (row_in rows arc.to) (Some arc.delay)

abbrev pub best_free : (ℕ → ℕ) → List (Option Entry) → List ℕ → Option Entry → List OutArc → Option Entry
best_free rank rows barred best [] = best
best_free rank rows barred best (arc ∷ arcs) = best_free rank rows barred (better (ahead rank) best (free_entry rows barred arc)) arcs

abbrev pub rows_at : Tables → ℕ → List (Option Entry)
rows_at tables place = slice_index_or tables.rows place []

-- the tables of the first ends
pub record AreEndTables (rank : ℕ → ℕ) (cone : Cone) (k : ℕ) (tables : List (List (Option Entry))) : Type 0 where
  pub long : length tables ≡ k
  pub rows : (place : ℕ) (end : WalkEnd) → place < k → slice_get cone.ends place ≡ Some end → IsTable rank cone end.node (slice_index_or tables place [])

-- the tables of a cone
pub record AreTables (rank : ℕ → ℕ) (cone : Cone) (tables : Tables) : Type 0 where
  pub outs : AreListed cone (count_of cone) tables.outs
  pub ends : length tables.rows ≡ length cone.ends
  pub rows : (place : ℕ) (end : WalkEnd) → slice_get cone.ends place ≡ Some end → IsTable rank cone end.node (rows_at tables place)
