-- Sums over the places of a forest: what stands below a place, and Elmore's sums over pairs of paths.

use Rattle.std.specs.Prelude.{ℕ, zero, suc, ◌≡◌, ◌<◌, ◌≤◌, ◌+◌, ◌-◌, ◌*◌, ◌^◌, set, ◌==◌, Bool, true, false, ◌&&◌, if◌then◌else◌, List, [], ◌∷◌, ◌++◌, length, get_or, Option, Some, None}
use Rattle.std.specs.Option.{option_map_or, unwrap_or}
use Rattle.rc_tree.specs.declared.forests.Row.{Row}
use Rattle.rc_tree.specs.Growth.{row_at, up_of}

-- the places from the first of a part to a place, the first left out
abbrev pub path_in : (ℕ → Option ℕ) → ℕ → ℕ → List ℕ
path_in up zero j = []
path_in up (suc most) j = option_map_or (λ p. path_in up most p ++ j ∷ []) (up j) []

abbrev pub path_to : (ℕ → Option ℕ) → ℕ → List ℕ
path_to up j = path_in up (suc j) j

-- a sum over the places below a count
abbrev pub sum_below : (ℕ → ℕ) → ℕ → ℕ
sum_below f zero = 0
sum_below f (suc n) = sum_below f n + f n

-- what two paths have in common, each place counted with its value
abbrev pub common : (ℕ → ℕ) → List ℕ → List ℕ → ℕ
common r [] qs = 0
common r (p ∷ ps) [] = 0
common r (p ∷ ps) (q ∷ qs) = if p == q then r p + common r ps qs else 0

-- whether a path begins with another
abbrev pub starts : List ℕ → List ℕ → Bool
starts [] qs = true
starts (p ∷ ps) [] = false
starts (p ∷ ps) (q ∷ qs) = (q == p) && starts ps qs

abbrev pub weight_at : List ℕ → ℕ → ℕ
weight_at weights i = get_or weights i 0

abbrev pub res_at : List Row → ℕ → ℕ
res_at rows j = (row_at rows j).res

-- the weight of a place and of all below it
abbrev pub weight_below : List Row → List ℕ → ℕ → ℕ
weight_below rows weights i =
    sum_below (λ c. if starts (path_to (up_of rows) i) (path_to (up_of rows) c) then weight_at weights c else 0) (length rows)

-- the sum over all places of shared resistance times weight
abbrev pub moment_at : List Row → List ℕ → ℕ → ℕ
moment_at rows weights k =
    sum_below (λ c. common (res_at rows) (path_to (up_of rows) c) (path_to (up_of rows) k) * weight_at weights c) (length rows)

abbrev pub IsRising : List Row → Type 0
IsRising rows = (j p : ℕ) → j < length rows → up_of rows j ≡ Some p → p < j

-- totals by place, where a place has a parent
abbrev pub AreSubtotals : List Row → List ℕ → List ℕ → Type 0
AreSubtotals rows weights totals = (i p : ℕ) → i < length rows → up_of rows i ≡ Some p → weight_at totals i ≡ weight_below rows weights i

abbrev pub AreMoments : List Row → List ℕ → List ℕ → Type 0
AreMoments rows weights moments = (length moments ≡ length rows) × ((k : ℕ) → k < length rows → weight_at moments k ≡ moment_at rows weights k)

abbrev pub AreSmall : List Row → List ℕ → Type 0
AreSmall rows weights = (k : ℕ) → k < length rows → moment_at rows weights k ≤ 2 ^ 125

-- the pass up: where what began at a place stands after the `d` last places gave theirs to their parents
abbrev pub hop_of : (ℕ → Option ℕ) → ℕ → ℕ → ℕ
hop_of up j x = if x == j then unwrap_or (up j) j else x

abbrev pub stand_of : ℕ → (ℕ → Option ℕ) → ℕ → ℕ → ℕ
stand_of n up zero i = i
stand_of n up (suc d) i = hop_of up (n - suc d) (stand_of n up d i)

abbrev pub standing_of : ℕ → (ℕ → Option ℕ) → (ℕ → ℕ) → ℕ → ℕ → ℕ
standing_of n up w d i = sum_below (λ c. if stand_of n up d c == i then w c else 0) n

-- the pass up: places from `j` on gave theirs to their parents
pub record IsUpTo (n : ℕ) (up : ℕ → Option ℕ) (w t : ℕ → ℕ) (j : ℕ) : Type 0 where
  pub low : (i : ℕ) → i < j → t i ≡ standing_of n up w (n - j) i
  pub high : (i : ℕ) → j ≤ i → i < n → t i ≡ standing_of n up w (n - suc i) i

-- the totals after the place `j` gave to its parent
abbrev pub given : List ℕ → Option ℕ → ℕ → List ℕ
given totals None j = totals
given totals (Some p) j = set totals p (weight_at totals p + weight_at totals j)

-- the totals of the pass up, at `j`
abbrev pub IsPassingUp : List Row → List ℕ → List ℕ → ℕ → Type 0
IsPassingUp rows weights totals j =
    (length totals ≡ length rows) × (j ≤ length rows) × IsUpTo (length rows) (up_of rows) (weight_at weights) (weight_at totals) j

-- the moments of the pass down, up to its place
abbrev pub next_moment : List Row → List ℕ → List ℕ → ℕ → ℕ
next_moment rows totals moments j = option_map_or (λ p. weight_at moments p + res_at rows j * weight_at totals j) (up_of rows j) 0

abbrev pub IsPassingDown : List Row → List ℕ → List ℕ → ℕ → Type 0
IsPassingDown rows weights moments j = (length moments ≡ j) × ((k : ℕ) → k < j → weight_at moments k ≡ moment_at rows weights k)
