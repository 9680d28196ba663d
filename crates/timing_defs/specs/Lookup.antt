-- Look-up in a table of one or two variables by linear interpolation, as is practice with the
-- non-linear delay model (Liberty reference manual, lu_table); each step is rounded once.

use Rattle.std.specs.Prelude.{ℕ, ◌+◌, ◌-◌, ◌*◌, ℤ, pos, ◌+ℤ◌, ◌-ℤ◌, ◌*ℤ◌, int_le, int_lt, nat_le, Bool, true, ◌&&◌, ◌==◌, if◌then◌else◌, List, [], ◌∷◌, length, get_or, count_by, slice_range}
use Rattle.std.specs.List.{list_all}
use Rattle.sta_units.specs.Numbers.{rounded, is_within}
use Rattle.timing_defs.specs.declared.library.Table.{Table}

-- the line through `p` at `a` and `q` at `b`, taken at `x`, between the two or beyond them
abbrev pub line : ℤ → ℤ → ℤ → ℤ → ℤ → ℤ
line p q a b x = p +ℤ rounded ((q -ℤ p) *ℤ (x -ℤ a)) (b -ℤ a)

-- the segment of an axis at `x` begins at the last entry, other than the last of all, that is not
-- above `x`, or at the first: the number of inner entries that are not above `x`
abbrev pub segment : List ℤ → ℤ → ℕ
segment axis x = count_by (λ entry. int_le entry x) (slice_range axis 1 (length axis - 1))

-- the value at `x` of what has the value `at i` at entry `i` of an axis; an axis of one entry is constant
abbrev pub along : List ℤ → (ℕ → ℤ) → ℤ → ℤ
along axis at x =
    (if length axis == 1 then at 0 else
    (let i = segment axis x in
    line (at i) (at (i + 1)) (get_or axis i (pos 0)) (get_or axis (i + 1) (pos 0)) x))

-- the value at entry `i` of the first axis and `j` of the second
abbrev pub entry_at : Table → ℕ → ℕ → ℤ
entry_at t i j = get_or t.vals (i * length t.ys + j) (pos 0)

-- along the first axis in the columns of the second, then along the second
abbrev pub look : Table → ℤ → ℤ → ℤ
look t x y = along t.ys (λ j. along t.xs (λ i. entry_at t i j) x) y

abbrev pub is_rising : List ℤ → Bool
is_rising [] = true
is_rising (x ∷ xs) = list_all (int_lt x) xs && is_rising xs

abbrev pub is_axis : List ℤ → Bool
is_axis axis = nat_le 1 (length axis) && nat_le (length axis) 64 && is_rising axis && list_all is_within axis

-- both axes rise strictly and have 1 to 64 entries, and there is a value for each pair
abbrev pub is_well_formed : Table → Bool
is_well_formed t =
    is_axis t.xs && is_axis t.ys && list_all is_within t.vals && (length t.vals == length t.xs * length t.ys)
