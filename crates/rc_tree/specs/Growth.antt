-- A forest of resistors as it grows: rows by place, each with its parent's place, and the place of each node.

use Rattle.std.specs.Prelude.{ℕ, ◌+◌, Bool, ◌&&◌, nat_eq, is_some, is_none, count_by, ◌≡◌, ◌⊎◌, ◌<◌, ◌≤◌, pos, List, ◌++◌, map, length, get_or, Option, Some, None}
use Rattle.std.specs.List.{AllByRecursion}
use Rattle.timing_defs.specs.declared.parasitics.RcNode.{RcNode}
use Rattle.timing_defs.specs.declared.parasitics.RcRes.{RcRes}
use Rattle.rc_tree.specs.declared.segments.Segment.{Segment}
use Rattle.rc_tree.specs.declared.forests.Row.{Row}
use Rattle.rc_tree.specs.declared.forests.Forest.{Forest}
use Rattle.rc_tree.specs.Numbering.{node_at}

-- the resistor that a segment stands for
abbrev pub wired : List RcNode → Segment → RcRes
wired nodes s = record { a = node_at nodes s.a; b = node_at nodes s.b; res = record { 0 = pos s.res } }

abbrev pub AreSegments : List RcNode → List RcRes → List Segment → Type 0
AreSegments nodes ress segments =
    (map (wired nodes) segments ≡ ress) × AllByRecursion (λ s. (s.a < length nodes) × (s.b < length nodes)) segments

abbrev pub no_segment : Segment
no_segment = record { a = 0; b = 0; res = 0 }

abbrev pub segment_at : List Segment → ℕ → Segment
segment_at segments k = get_or segments k no_segment

abbrev pub no_row : Row
no_row = record { node = 0; parent = None; segment = 0; res = 0; home = 0 }

abbrev pub row_at : List Row → ℕ → Row
row_at rows j = get_or rows j no_row

abbrev pub up_of : List Row → ℕ → Option ℕ
up_of rows j = (row_at rows j).parent

abbrev pub place_of : Forest → ℕ → Option ℕ
place_of f u = get_or f.places.items u None

-- a segment joins two nodes; it has a node as an end
abbrev pub Links : Segment → ℕ → ℕ → Type 0
Links s u v = ((s.a ≡ u) × (s.b ≡ v)) ⊎ ((s.a ≡ v) × (s.b ≡ u))

abbrev pub Touches : Segment → ℕ → Type 0
Touches s u = (s.a ≡ u) ⊎ (s.b ≡ u)

-- the segment `k` leads from a place to its parent
abbrev pub IsUsed : List Row → ℕ → Type 0
IsUsed rows k = (j : ℕ) × ((p : ℕ) × (j < length rows) × (up_of rows j ≡ Some p) × ((row_at rows j).segment ≡ k))

-- a row's segment leads to the place `p`
abbrev pub IsLinkedTo : List Segment → List Row → Row → ℕ → Type 0
IsLinkedTo segments rows row p =
    (row.segment < length segments) × Links (segment_at segments row.segment) (row_at rows p).node row.node × (row.res ≡ (segment_at segments row.segment).res)

-- whether the segment `k` leads from a place to its parent
abbrev pub is_used_at : List Row → ℕ → ℕ → Bool
is_used_at rows k j = is_some (up_of rows j) && nat_eq (row_at rows j).segment k

-- what is true of a forest at all times
pub record IsGrown (segments : List Segment) (count : ℕ) (f : Forest) : Type 0 where
  pub sized : length f.places.items ≡ count
  pub room : count_by is_none f.places.items + length f.rows.items ≡ count
  pub placed : (j : ℕ) → j < length f.rows.items → ((row_at f.rows.items j).node < count) × (place_of f (row_at f.rows.items j).node ≡ Some j)
  pub back : (u j : ℕ) → place_of f u ≡ Some j → (j < length f.rows.items) × ((row_at f.rows.items j).node ≡ u)
  pub rising : (j p : ℕ) → j < length f.rows.items → up_of f.rows.items j ≡ Some p → p < j
  pub linked : (j p : ℕ) → j < length f.rows.items → up_of f.rows.items j ≡ Some p → IsLinkedTo segments f.rows.items (row_at f.rows.items j) p
  pub same_home : (j p : ℕ) → j < length f.rows.items → up_of f.rows.items j ≡ Some p → (row_at f.rows.items j).home ≡ (row_at f.rows.items p).home
  pub own_home : (j : ℕ) → j < length f.rows.items → up_of f.rows.items j ≡ None → (row_at f.rows.items j).home ≡ j
  pub low_home : (j : ℕ) → j < length f.rows.items → (row_at f.rows.items j).home ≤ j

-- each resistor at one of the first `h` places leads to a parent; the places from `h` on are all of the part `home`
abbrev pub IsSpread : List Segment → ℕ → Forest → Type 0
IsSpread segments h f =
    (i k : ℕ) → i < h → k < length segments → Touches (segment_at segments k) (row_at f.rows.items i).node → IsUsed f.rows.items k

abbrev pub IsRecent : ℕ → ℕ → Forest → Type 0
IsRecent h home f = (x : ℕ) → h ≤ x → x < length f.rows.items → (row_at f.rows.items x).home ≡ home

-- each resistor at a place leads to a parent
abbrev pub IsDone : List Segment → ℕ → Forest → Type 0
IsDone segments count f = IsGrown segments count f × IsSpread segments (length f.rows.items) f

-- rows are added at the end
abbrev pub IsLonger : Forest → Forest → Type 0
IsLonger old new = (more : List Row) × (new.rows.items ≡ old.rows.items ++ more)
