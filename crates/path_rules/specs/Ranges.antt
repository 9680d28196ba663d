-- How many cycles multicycles can make of a test, over all launches and captures (SDC).

use Rattle.std.specs.Prelude.{◌≡◌, ℕ, ◌≤◌, nat_lt, if◌then◌else◌, List, [], ◌∷◌, Option, Some, None}
use Rattle.timing_defs.specs.declared.kinds.Kind.{Kind}
use Rattle.timing_defs.specs.declared.constraints.Constraints.{Constraints}
use Rattle.timing_defs.specs.declared.constraints.Exception.{Exception}
use Rattle.timing_defs.specs.declared.rows.Launch.{Launch}
use Rattle.timing_defs.specs.declared.rows.Capture.{Capture}
use Rattle.timing_rules.specs.Rules.{cycles, cycles_in, without_cycles}
use Rattle.path_rules.specs.declared.ranges.CycleRange.{CycleRange}

abbrev pub lesser : ℕ → ℕ → ℕ
lesser m n = (if nat_lt n m then n else m)

abbrev pub greater : ℕ → ℕ → ℕ
greater m n = (if nat_lt m n then n else m)

-- a range with a number more, where there is one
abbrev pub widened : CycleRange → Option ℕ → CycleRange
widened r None = r
widened r (Some n) = record { fewest = lesser r.fewest n; most = greater r.most n }

-- a range with the numbers of all multicycles of a kind
abbrev pub range_over : Kind → CycleRange → List Exception → CycleRange
range_over kind r [] = r
range_over kind r (x ∷ xs) = range_over kind (widened r (cycles_in kind x.effect)) xs

abbrev pub plain_range : Kind → CycleRange
plain_range kind = record { fewest = without_cycles kind; most = without_cycles kind }

abbrev pub range_of : Constraints → Kind → CycleRange
range_of c kind = range_over kind (plain_range kind) c.exceptions

-- no launch and capture have fewer or more cycles
abbrev pub IsRange : Constraints → Kind → CycleRange → Type 0
IsRange c kind r = (launch : Launch) (capture : Capture) → (r.fewest ≤ cycles c kind launch capture) × (cycles c kind launch capture ≤ r.most)
