-- The layered cone: a node for each place of a cone and each stage, which is how many stops are passed
-- there. Each arc leads from a stage to the stage behind its node.

use Rattle.std.specs.Prelude.{◌≡◌, ℕ, zero, suc, ◌+◌, ◌-◌, ◌*◌, ◌/◌, ◌%◌, ◌<◌, ◌≤◌, ◌==◌, nat_lt, min, if◌then◌else◌, List, [], ◌++◌, All, map, length, slice_index, slice_range}
use Rattle.worst_walks.specs.declared.cones.WalkArc.{WalkArc}
use Rattle.worst_walks.specs.declared.cones.Launch.{Launch}
use Rattle.worst_walks.specs.declared.cones.WalkEnd.{WalkEnd}
use Rattle.worst_walks.specs.declared.cones.Cone.{Cone}
use Rattle.worst_walks.specs.declared.cones.Walk.{Walk}
use Rattle.worst_walks.specs.Walks.{count_of, arcs_into}
use Rattle.through_walks.specs.declared.stops.Stop.{Stop}
use Rattle.through_walks.specs.Through.{next_stop}

-- lists that stand side by side, the list of a place between two numbers of `starts`
pub record AreParts {X : Type 0} (count : ℕ) (part : ℕ → List X) (starts : List ℕ) (items : List X) : Type 0 where
  pub long : length starts ≡ count + 1
  pub last : slice_index starts count ≡ length items
  pub rising : (n : ℕ) → n < count → slice_index starts n ≤ slice_index starts (n + 1)
  pub stored : (n : ℕ) → n < count → slice_index starts (n + 1) ≤ length items
  pub each : (n : ℕ) → n < count → slice_range items (slice_index starts n) (slice_index starts (n + 1)) ≡ part n

-- an arc from a stage
abbrev pub arc_on : ℕ → ℕ → WalkArc → WalkArc
arc_on stages s arc = record { from = arc.from * stages + s; delay = arc.delay }

-- the arcs into a place at a stage, from another stage, and from all
abbrev pub arcs_from : List Stop → ℕ → List WalkArc → ℕ → ℕ → ℕ → List WalkArc
arcs_from stops stages arcs place s t = if next_stop stops s place == t then map (arc_on stages s) arcs else []

abbrev pub arcs_onto : List Stop → ℕ → List WalkArc → ℕ → ℕ → List WalkArc
arcs_onto stops stages arcs place zero = arcs_from stops stages arcs place zero zero
arcs_onto stops stages arcs place (suc s) = arcs_from stops stages arcs place (suc s) (suc s) ++ arcs_from stops stages arcs place s (suc s)

abbrev pub arcs_layered : List Stop → ℕ → Cone → ℕ → List WalkArc
arcs_layered stops stages cone n = arcs_onto stops stages (arcs_into cone (n / stages)) (n / stages) (n % stages)

-- the stage at which a walk begins at a place: with more stops passed than there are it leads to no end
abbrev pub first_stage : List Stop → List ℕ → ℕ → ℕ
first_stage stops begun n = min (slice_index begun n) (length stops + 1)

abbrev pub launch_on : List Stop → ℕ → List ℕ → Launch → Launch
launch_on stops stages begun launch =
    record { node = launch.node * stages + first_stage stops begun launch.node; offer = launch.offer }

-- an end where all stops are passed
abbrev pub end_on : List Stop → ℕ → List ℕ → WalkEnd → WalkEnd
end_on stops stages begun end =
    record { node = end.node * stages + length stops; launches = map (launch_on stops stages begun) end.launches }

-- an end and its launches are below a number
abbrev pub AreBelow : ℕ → WalkEnd → Type 0
AreBelow count end = (end.node < count) × All (λ launch. launch.node < count) end.launches

-- enough stages for all that is passed
pub record AreStages (stops : List Stop) (begun : List ℕ) (stages : ℕ) : Type 0 where
  pub last : length stops < stages
  pub first : (n : ℕ) → n < length begun → first_stage stops begun n < stages

pub record IsLayered (cone : Cone) (stops : List Stop) (begun : List ℕ) (stages : ℕ) (layers : Cone) : Type 0 where
  pub count : count_of layers ≡ count_of cone * stages
  pub parts : AreParts (count_of cone * stages) (arcs_layered stops stages cone) layers.starts layers.arcs
  pub ends : layers.ends ≡ map (end_on stops stages begun) cone.ends

-- the order of layered nodes is that of their places; the numbers from `count` on are those of the order
-- of places
abbrev pub place_of : ℕ → ℕ → ℕ → ℕ
place_of stages count n = if nat_lt n count then n / stages else n - count

abbrev pub past : ℕ → ℕ → ℕ
past count n = n + count

-- how many numbers an order of layered nodes knows, where one of places knows so many: none where
-- some place is not known
abbrev pub known_on : ℕ → ℕ → ℕ → ℕ
known_on stages count places = if nat_lt (places * stages) count then 0 else count + places

abbrev pub rank_on : ℕ → ℕ → (ℕ → ℕ) → ℕ → ℕ
rank_on stages count rank n = rank (place_of stages count n)

abbrev pub before_on : ℕ → ℕ → (ℕ → List ℕ) → ℕ → List ℕ
before_on stages count before n = map (past count) (before (place_of stages count n))

-- the walk of the cone under a layered walk
abbrev pub unlayered : ℕ → Walk → Walk
unlayered stages walk =
    record { slack = walk.slack; launch = walk.launch; end = walk.end; nodes = map (λ n. n / stages) walk.nodes }
