-- A bound from the rows of a timing graph: the lowest offer on each launch edge less the node's arrival
-- on it, signed so that early arrivals of hold tests are negated.

use Rattle.std.specs.Prelude.{◌≡◌, ℕ, ◌^◌, ◌<◌, ◌≤◌, ℤ, pos, ◌+ℤ◌, ◌-ℤ◌, ◌≤ℤ◌, unsigned_abs, List, [], ◌∷◌, All, Contains, Option, Some, None, option_map}
use Rattle.timing_defs.specs.declared.kinds.Kind.{Kind}
use Rattle.timing_defs.specs.declared.kinds.Kind.TheVariants.{Setup, Hold}
use Rattle.timing_defs.specs.declared.kinds.Tran.{Tran}
use Rattle.timing_defs.specs.declared.edge_times.EdgeTime.{EdgeTime}
use Rattle.timing_defs.specs.RowTimes.{time_on}
use Rattle.worst_walks.specs.declared.cones.WalkArc.{WalkArc}
use Rattle.bounded_slack.specs.Nets.{Net, count_of, arcs_into, offer_of, bound_of, minus_some, lesser, IsShape}

-- a time as a search for the least slack takes it: that of hold tests negated
abbrev pub signed : Kind → ℤ → ℤ
signed Setup time = time
signed Hold time = pos 0 -ℤ time

abbrev pub edge_in : EdgeTime → ℕ × Tran
edge_in low = (low.clock, low.tran)

-- a signed time of a row on a launch edge
abbrev pub signed_on : Kind → List EdgeTime → ℕ × Tran → Option ℤ
signed_on kind times edge = option_map (signed kind) (time_on times edge)

-- the least over launch edges of what the lowest offer leaves at a node that has these times
abbrev pub room_on : (ℕ × Tran → Option ℤ) → EdgeTime → Option ℤ
room_on time low = minus_some (Some low.time.0) (time (edge_in low))

abbrev pub least_room : (ℕ × Tran → Option ℤ) → Option ℤ → List EdgeTime → Option ℤ
least_room time least [] = least
least_room time least (low ∷ lows) = least_room time (lesser least (room_on time low)) lows

-- there, and at least a number
abbrev pub IsAtLeast : Option ℤ → ℤ → Type 0
IsAtLeast None v = ⊥
IsAtLeast (Some x) v = v ≤ℤ x

-- where a node before an arc arrives on a launch edge, the node behind it does, at least the delay later
abbrev pub IsLater : (ℕ → ℕ × Tran → Option ℤ) → ℕ → WalkArc → Type 0
IsLater arrival n arc =
    (edge : ℕ × Tran) (t : ℤ) → arrival arc.from edge ≡ Some t → IsAtLeast (arrival n edge) (t +ℤ arc.delay)

-- signed arrivals of all nodes
abbrev pub AreArrivals : Net → (ℕ → ℕ × Tran → Option ℤ) → Type 0
AreArrivals net arrival = (n : ℕ) → n < count_of net → All (IsLater arrival n) (arcs_into net n)

-- an offer is at least the lowest one on some launch edge, less the arrival there
pub record IsOffered (lows : List EdgeTime) (time : ℕ × Tran → Option ℤ) (offer : ℤ) : Type 0 where
  pub low : EdgeTime
  pub within : Contains lows low
  pub arrives : ℤ
  pub its : time (edge_in low) ≡ Some arrives
  pub least : (low.time.0 -ℤ arrives) ≤ℤ offer

-- the bounds are those by the arrivals, and the lowest offers are at most the offers
pub record IsBounded (net : Net) (lows : List EdgeTime) (arrival : ℕ → ℕ × Tran → Option ℤ) : Type 0 where
  pub bound : (n : ℕ) → n < count_of net → bound_of net n ≡ least_room (arrival n) None lows
  pub offer : (n : ℕ) (o : ℤ) → n < count_of net → offer_of net n ≡ Some o → IsOffered lows (arrival n) o

-- nodes that are bounded by arrivals on launch edges
pub record IsByRows (net : Net) : Type 0 where
  pub shape : IsShape net
  pub lows : List EdgeTime
  pub arrival : ℕ → ℕ × Tran → Option ℤ
  pub arrivals : AreArrivals net arrival
  pub bounded : IsBounded net lows arrival

-- a lowest offer that rooms are told from
abbrev pub IsLowOffer : EdgeTime → Type 0
IsLowOffer low = unsigned_abs low.time.0 ≤ 10 ^ 17
