-- The credit of clock pessimism removal (TAU 2015 contest): a launch and a capture path that leave
-- the clock tree at one place share all that comes before it.

use Rattle.std.specs.Prelude.{ℕ, zero, suc, ◌<◌, ℤ, pos, ◌-ℤ◌, ◌==◌, if◌then◌else◌, List, [], ◌∷◌, ◌++◌, Option, Some, None}
use Rattle.std.specs.Option.{option_map_or}
use Rattle.std.specs.Int.{int_min}
use Rattle.sta_units.specs.Numbers.{Within}
use Rattle.pessimism_credit.specs.declared.rows.TreeRow.{TreeRow}

-- the parent of the place `n`; a root has none
abbrev pub parent_of : List TreeRow → ℕ → Option ℕ
parent_of [] n = None
parent_of (row ∷ rows) zero = row.parent
parent_of (row ∷ rows) (suc n) = parent_of rows n

-- a parent, where there is one, stands before its child (own rule: it makes a tree of the rows)
abbrev pub IsBefore : Option ℕ → ℕ → Type 0
IsBefore None n = Unit {0}
IsBefore (Some parent) n = parent < n

-- rows from the place `n` on: each parent stands before its child, and each arrival is within the limit
abbrev pub IsTreeFrom : ℕ → List TreeRow → Type 0
IsTreeFrom n [] = Unit {0}
IsTreeFrom n (row ∷ rows) =
    IsBefore row.parent n × Within row.early.0 × Within row.late.0 × IsTreeFrom (suc n) rows

-- all rows of one or more trees
abbrev pub IsTree : List TreeRow → Type 0
IsTree rows = IsTreeFrom 0 rows

-- the last `most` places from the root to `n`
abbrev pub path_end : ℕ → List TreeRow → ℕ → List ℕ
path_end zero rows n = []
path_end (suc most) rows n = option_map_or (path_end most rows) (parent_of rows n) [] ++ n ∷ []

-- the places from the root to `n`: parents stand before their children, so there are at most `n + 1`
abbrev pub root_path : List TreeRow → ℕ → List ℕ
root_path rows n = path_end (suc n) rows n

-- the last place of the longest common prefix of two paths, or `last` where the prefix is empty
abbrev pub last_common : Option ℕ → List ℕ → List ℕ → Option ℕ
last_common last [] ys = last
last_common last (x ∷ xs) [] = last
last_common last (x ∷ xs) (y ∷ ys) = (if x == y then last_common (Some x) xs ys else last)

-- late less early arrival at the place `n`; 0 where there is no such row
abbrev pub pessimism_at : List TreeRow → ℕ → ℤ
pessimism_at [] n = pos 0
pessimism_at (row ∷ rows) zero = row.late.0 -ℤ row.early.0
pessimism_at (row ∷ rows) (suc n) = pessimism_at rows n

-- the credit of two places: the pessimism at the last place that their paths share, or 0
abbrev pub credit_of : List TreeRow → ℕ → ℕ → ℤ
credit_of rows a b =
    option_map_or (pessimism_at rows) (last_common None (root_path rows a) (root_path rows b)) (pos 0)

-- the least pessimism at the places of a path; 0 where none is less
abbrev pub least_over : List TreeRow → List ℕ → ℤ
least_over rows [] = pos 0
least_over rows (n ∷ ns) = int_min (pessimism_at rows n) (least_over rows ns)

-- the least credit that a place can have: no credit of it with another place is less
abbrev pub least_credit_of : List TreeRow → ℕ → ℤ
least_credit_of rows b = least_over rows (root_path rows b)
