-- Delays and impulses of wires by place, each rounded once.

use Rattle.std.specs.Prelude.{ℕ, ◌≡◌, ◌<◌, ◌≤◌, ◌+◌, ◌-◌, ◌*◌, ◌/◌, ◌^◌, ◌==◌, Bool, ◌||◌, pos, List, map, length, get_or, Option, Some, None}
use Rattle.std.specs.List.{list_all}
use Rattle.timing_defs.specs.declared.parasitics.RcNode.{RcNode}
use Rattle.timing_defs.specs.declared.parasitics.RcRes.{RcRes}
use Rattle.timing_defs.specs.declared.parasitics.NetRc.{NetRc}
use Rattle.timing_defs.specs.Wires.{is_lumped}
use Rattle.rc_tree.specs.declared.segments.Segment.{Segment}
use Rattle.rc_tree.specs.declared.forests.Row.{Row}
use Rattle.rc_tree.specs.declared.forests.Forest.{Forest}
use Rattle.rc_tree.specs.declared.wires.Wire.{Wire}
use Rattle.rc_tree.specs.Growth.{AreSegments, up_of}
use Rattle.rc_tree.specs.Loops.{IsFound}
use Rattle.rc_tree.specs.Moments.{sum_below, weight_at, res_at, moment_at, IsRising, AreMoments}
use Rattle.rc_tree.specs.Weights.{AreUnder}

-- a moment over 10^6 to the nearest whole number, halves upward
abbrev pub micro : ℕ → ℕ
micro n = (2 * n + 1000000) / 2000000

-- the delay at a place, in fs
abbrev pub delay_at : List Row → List ℕ → ℕ → ℕ
delay_at rows weights k = micro (moment_at rows weights k)

-- a moment whose delay is beyond the limit
abbrev pub IsAnyOver : List ℕ → Type 0
IsAnyOver moments = (k : ℕ) × ((k < length moments) × (10 ^ 12 < micro (weight_at moments k)))

abbrev pub IsOver : List Row → List ℕ → Type 0
IsOver rows weights = (k : ℕ) × ((k < length rows) × (10 ^ 12 < delay_at rows weights k))

-- each weight times the delay at its place
abbrev pub AreTimes : List ℕ → List ℕ → List ℕ → Type 0
AreTimes weights delays products = (length products ≡ length weights) × ((i : ℕ) → weight_at products i ≡ weight_at weights i * weight_at delays i)

-- delay, and twice the second moment less the delay's square, or 0 where that is negative
abbrev pub wire_at : List ℕ → List ℕ → Option ℕ → Wire
wire_at delays seconds None = record { delay = pos 0; impulse = 0 }
wire_at delays seconds (Some p) = record { delay = pos (weight_at delays p); impulse = 2 * micro (weight_at seconds p) - weight_at delays p * weight_at delays p }

abbrev pub ArePlaces : ℕ → List (Option ℕ) → Type 0
ArePlaces count places = (u p : ℕ) → get_or places u None ≡ Some p → p < count

-- rows and weights within the limits
pub record IsLimited (rows : List Row) (places : List (Option ℕ)) (weights : List ℕ) : Type 0 where
  pub rising : IsRising rows
  pub placed : ArePlaces (length rows) places
  pub few : length rows ≤ 65535
  pub ohms : (j p : ℕ) → j < length rows → up_of rows j ≡ Some p → res_at rows j ≤ 10 ^ 12
  pub size : length weights ≡ length rows
  pub total : sum_below (weight_at weights) (length rows) ≤ 10 ^ 12

-- the wires to numbered nodes: what the moments of weights give
pub record AreWires (rows : List Row) (weights : List ℕ) (places : List (Option ℕ)) (wires : List Wire) : Type 0 where
  pub delays : List ℕ
  pub products : List ℕ
  pub seconds : List ℕ
  pub timed : (k : ℕ) → k < length rows → weight_at delays k ≡ delay_at rows weights k
  pub bound : AreUnder (10 ^ 12) delays
  pub times : AreTimes weights delays products
  pub second : AreMoments rows products seconds
  pub made : wires ≡ map (wire_at delays seconds) places

-- the forest of a net's resistors
abbrev pub IsForestOf : List RcNode → List RcRes → Forest → Type 0
IsForestOf nodes ress f = (segments : List Segment) × (AreSegments nodes ress segments × IsFound segments (length nodes) f)

-- whether all rows are of the first part
abbrev pub is_whole : List Row → Bool
is_whole rows = list_all (λ r. r.home == 0) rows

abbrev pub is_reached : NetRc → List Row → Bool
is_reached net rows = is_lumped net || is_whole rows
