-- Stretches of numbers in the order of their lower ends.
use Rattle.std.specs.Prelude.{◌≡◌, ℕ, ◌+◌, ◌<◌, max, List, [], ◌∷◌, length, take, get_or}
use Rattle.std.specs.List.Sorted.{IsNonDecreasingBy}
use Rattle.verilog_netlist.specs.declared.covers.Stretch.{Stretch}

-- the greatest upper end
abbrev pub reach : List Stretch → ℕ
reach [] = 0
reach (s ∷ ss) = max s.high (reach ss)

-- the stretches rise by their lower ends, and each has the greatest upper end up to it beside it
pub record IsCover (items : List Stretch) (ends : List ℕ) : Type 0 where
  pub rising : IsNonDecreasingBy (λ s. s.low) items
  pub count : length ends ≡ length items
  pub reaches : (i : ℕ) → i < length items → get_or ends i 0 ≡ reach (take (i + 1) items)
