-- Sums that never fall below the least total that is told.

use Rattle.std.specs.Prelude.{◌-◌, ◌^◌, ℤ, negsuc, ◌+ℤ◌, List, [], ◌∷◌, Option}
use Rattle.std.specs.Int.{int_max}
use Rattle.timing_rules.specs.Reports.{negative_part}

abbrev pub lowered : ℤ → ℤ → ℤ
lowered total part = int_max (negsuc (2 ^ 63 - 2)) (total +ℤ part)

-- a total with the negative ones of some slacks more
abbrev pub floored : ℤ → List (Option ℤ) → ℤ
floored total [] = total
floored total (s ∷ slacks) = floored (lowered total (negative_part s)) slacks
