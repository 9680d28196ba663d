-- The table of a search: for each node the greatest delay sum of a walk from it to the end node, and
-- the next node of that walk (longest path over a graph in topological order).

use Rattle.std.specs.Prelude.{◌≡◌, ℕ, ◌*◌, ◌^◌, ◌<◌, ◌≤◌, nat_lt, ℤ, pos, ◌+ℤ◌, ◌-ℤ◌, unsigned_abs, int_lt, Bool, false, ◌&&◌, ◌||◌, List, [], ◌∷◌, length, slice_index_or, slice_set, Option, Some, None, option_map}
use Rattle.std.specs.Ordering.{int_eq}
use Rattle.worst_walks.specs.declared.cones.WalkArc.{WalkArc}
use Rattle.worst_walks.specs.declared.cones.Launch.{Launch}
use Rattle.worst_walks.specs.declared.cones.Cone.{Cone}
use Rattle.worst_walks.specs.declared.tables.Entry.{Entry}
use Rattle.worst_walks.specs.Best.{BestOf, better}
use Rattle.worst_walks.specs.Walks.{count_of, is_first, arcs_into, delay_between}

abbrev pub row_in : List (Option Entry) → ℕ → Option Entry
row_in rows n = slice_index_or rows n None

-- of two entries of a node the one of greater sum comes before, of equal sums the one whose next node
-- has the lesser rank: the arcs out of a node lead to different nodes
abbrev pub ahead : (ℕ → ℕ) → Entry → Entry → Bool
ahead rank a b = int_lt b.total a.total || (int_eq a.total b.total && nat_lt (rank a.next) (rank b.next))

-- the entry by an arc of this delay to a node of this row
abbrev pub through : ℕ → Option Entry → Option ℤ → Option Entry
through node None delay = None
through node (Some after) None = None
through node (Some after) (Some delay) = Some (record { total = delay +ℤ after.total; next = node })

-- the rows after an arc, after a list of arcs and after all arcs into a node, as far as that node has a row
abbrev pub relaxed : (ℕ → ℕ) → ℕ → Entry → List (Option Entry) → WalkArc → List (Option Entry)
relaxed rank node after rows arc =
    slice_set rows arc.from (better (ahead rank) (row_in rows arc.from) (through node (Some after) (Some arc.delay)))

abbrev pub pushed : (ℕ → ℕ) → ℕ → Entry → List (Option Entry) → List WalkArc → List (Option Entry)
pushed rank node after rows [] = rows
pushed rank node after rows (arc ∷ arcs) = pushed rank node after (relaxed rank node after rows arc) arcs

abbrev pub spread : (ℕ → ℕ) → Cone → ℕ → Option Entry → List (Option Entry) → List (Option Entry)
spread rank cone node None rows = rows
spread rank cone node (Some after) rows = pushed rank node after rows (arcs_into cone node)

-- a sum of at most `k` delays
abbrev pub IsBounded : ℕ → Option Entry → Type 0
IsBounded k None = Unit {0}
IsBounded k (Some entry) = unsigned_abs entry.total ≤ k * 10 ^ 12

-- an entry that leads to a node below a number
abbrev pub IsKnown : ℕ → Option Entry → Type 0
IsKnown count None = Unit {0}
IsKnown count (Some entry) = entry.next < count

-- an entry of a node by some arc to a node below `k`
abbrev pub IsCandidate : Cone → List (Option Entry) → ℕ → ℕ → Entry → Type 0
IsCandidate cone rows k n entry =
    (j : ℕ) × (j < k) × (through j (row_in rows j) (delay_between cone n j) ≡ Some entry)

-- the table with the arcs into the nodes below `k`: the end node has the empty walk, each other node
-- the best of its arcs to nodes below `k`
pub record IsFilled (rank : ℕ → ℕ) (cone : Cone) (end k : ℕ) (rows : List (Option Entry)) : Type 0 where
  pub long : length rows ≡ count_of cone
  pub last : row_in rows end ≡ Some (record { total = pos 0; next = end })
  pub below : (n : ℕ) → n < end → row_in rows n ≡ None
  pub each : (n : ℕ) → (n ≡ end → ⊥) → BestOf (ahead rank) (IsCandidate cone rows k n) (row_in rows n)
  pub bounded : (n : ℕ) → IsBounded k (row_in rows n)

abbrev pub IsTable : (ℕ → ℕ) → Cone → ℕ → List (Option Entry) → Type 0
IsTable rank cone end rows = IsFilled rank cone end (count_of cone) rows

-- the list of nodes behind a node to which the entries lead
abbrev pub LeadsTo : Option Entry → ℕ → Type 0
LeadsTo None m = ⊥
LeadsTo (Some entry) m = entry.next ≡ m

abbrev pub Traces : List (Option Entry) → ℕ → ℕ → List ℕ → Type 0
Traces rows end n [] = n ≡ end
Traces rows end n (m ∷ ms) = (n ≡ end → ⊥) × LeadsTo (row_in rows n) m × Traces rows end m ms

-- the whole list, with the node from which it leads
abbrev pub IsTrace : List (Option Entry) → ℕ → ℕ → List ℕ → Type 0
IsTrace rows end n [] = ⊥
IsTrace rows end n (m ∷ ms) = (m ≡ n) × Traces rows end n ms

-- the least slack of the walks from a launch
abbrev pub offered : List (Option Entry) → Launch → Option ℤ
offered rows launch = option_map (λ entry. launch.offer -ℤ entry.total) (row_in rows launch.node)

abbrev pub least_from : List (Option Entry) → Option ℤ → List Launch → Option ℤ
least_from rows least [] = least
least_from rows least (launch ∷ launches) = least_from rows (better int_lt least (offered rows launch)) launches

-- marks for the first nodes
abbrev pub is_marked : List Bool → ℕ → Bool
is_marked marks n = slice_index_or marks n false

pub record AreFirst (cone : Cone) (marks : List Bool) : Type 0 where
  pub count : length marks ≡ count_of cone
  pub each : (n : ℕ) → is_marked marks n ≡ is_first cone n
