-- Walks of a fan-in cone over numbered nodes and the worst of them: the worst path of static timing
-- analysis, as a path of least slack.

use Rattle.std.specs.Prelude.{◌≡◌, ℕ, ◌+◌, ◌^◌, ◌<◌, ◌≤◌, ◌==◌, ℤ, pos, ◌-ℤ◌, ◌≤ℤ◌, unsigned_abs, Bool, false, if◌then◌else◌, List, [], ◌∷◌, ◌++◌, map, length, slice_index, slice_range, slice_get, All, Option, Some, None, IsSome, option_map}
use Rattle.std.specs.List.{list_any}
use Rattle.std.specs.Option.{option_and_then}
use Rattle.std.specs.Ordering.{nat_cmp, int_cmp, ordering_then, is_lt, is_gt}
use Rattle.std.specs.Cmp.Lexicographic.{slice_cmp}
use Rattle.sta_units.specs.Numbers.{Within}
use Rattle.timing_defs.specs.RowTimes.{plus_some}
use Rattle.worst_walks.specs.declared.cones.WalkArc.{WalkArc}
use Rattle.worst_walks.specs.declared.cones.Launch.{Launch}
use Rattle.worst_walks.specs.declared.cones.WalkEnd.{WalkEnd}
use Rattle.worst_walks.specs.declared.cones.Cone.{Cone}
use Rattle.worst_walks.specs.declared.cones.Walk.{Walk}

-- how many nodes a cone has
abbrev pub count_of : Cone → ℕ
count_of cone = cone.count

-- the arcs that a cone lists into a node
abbrev pub listed_into : Cone → ℕ → List WalkArc
listed_into cone n = slice_range cone.arcs (slice_index cone.starts n) (slice_index cone.starts (n + 1))

-- a first node: some launch is at it
abbrev pub is_launched : List Launch → ℕ → Bool
is_launched launches n = list_any (λ launch. launch.node == n) launches

abbrev pub is_first : Cone → ℕ → Bool
is_first cone n = list_any (λ end. is_launched end.launches n) cone.ends

-- the arcs that a walk can follow into a node: a walk with a first node begins at it
unfoldable pub arcs_into : Cone → ℕ → List WalkArc
arcs_into cone n = if is_first cone n then [] else listed_into cone n

-- the delay of the arc from a node, where there is one
abbrev pub delay_in : List WalkArc → ℕ → Option ℤ
delay_in [] n = None
delay_in (arc ∷ arcs) n = if arc.from == n then Some arc.delay else delay_in arcs n

abbrev pub delay_between : Cone → ℕ → ℕ → Option ℤ
delay_between cone n m = delay_in (arcs_into cone m) n

-- the sum of the delays of a walk from a node by others to an end node, over nodes of any type: none
-- where two that follow each other are not joined, or the last is not the end node
abbrev pub walk_sum : {N : Type 0} → (N → N → Bool) → (N → N → Option ℤ) → N → N → List N → Option ℤ
walk_sum same delay end n [] = if same n end then Some (pos 0) else None
walk_sum same delay end n (m ∷ ms) = plus_some (delay n m) (walk_sum same delay end m ms)

-- the slack of a list of nodes from a launch to an end node, where it is a walk
abbrev pub launch_slack : Cone → ℕ → Launch → List ℕ → Option ℤ
launch_slack cone end launch [] = None
launch_slack cone end launch (n ∷ ms) =
    (if n == launch.node
    then option_map (λ sum. launch.offer -ℤ sum) (walk_sum ◌==◌ (delay_between cone) end n ms)
    else None)

abbrev pub slack_of : Cone → Walk → Option ℤ
slack_of cone walk =
    option_and_then
    (λ end. option_and_then (λ launch. launch_slack cone end.node launch walk.nodes) (slice_get end.launches walk.launch))
    (slice_get cone.ends walk.end)

-- a walk of the cone, with its slack
abbrev pub IsWalk : Cone → Walk → Type 0
IsWalk cone walk = slack_of cone walk ≡ Some walk.slack

-- the nodes that stand before the first node of a walk, and those of the walk
abbrev pub whole_list : (ℕ → List ℕ) → List ℕ → List ℕ
whole_list before [] = []
whole_list before (n ∷ ns) = before n ++ (n ∷ ns)

-- their ranks, which are their places in the order by names
abbrev pub ranks_along : (ℕ → ℕ) → (ℕ → List ℕ) → Walk → List ℕ
ranks_along rank before walk = map rank (whole_list before walk.nodes)

-- a walk is no worse than another, and at equal slack not after it by the ranks
abbrev pub IsAtMost : (ℕ → ℕ) → (ℕ → List ℕ) → Walk → Walk → Type 0
IsAtMost rank before worst walk =
    (worst.slack ≤ℤ walk.slack)
    × (walk.slack ≡ worst.slack → is_gt (slice_cmp nat_cmp (ranks_along rank before worst) (ranks_along rank before walk)) ≡ false)

-- the worst walk: of least slack, and of those the first by the ranks; None: there is no walk
abbrev pub IsWorst : (ℕ → ℕ) → (ℕ → List ℕ) → Cone → Option Walk → Type 0
IsWorst rank before cone None = (walk : Walk) → IsWalk cone walk → ⊥
IsWorst rank before cone (Some worst) = IsWalk cone worst × ((walk : Walk) → IsWalk cone walk → IsAtMost rank before worst walk)

-- a walk comes before another: by slack, then by the ranks
abbrev pub comes_before : (ℕ → ℕ) → (ℕ → List ℕ) → Walk → Walk → Bool
comes_before rank before a b =
    is_lt (ordering_then (int_cmp a.slack b.slack) (slice_cmp nat_cmp (ranks_along rank before a) (ranks_along rank before b)))

-- no two arcs of a list come from one node
abbrev pub AreApart : List WalkArc → Type 0
AreApart [] = Unit {0}
AreApart (arc ∷ arcs) = (list_any (λ other. other.from == arc.from) arcs ≡ false) × AreApart arcs

-- an arc into the node leads from a higher number, with a delay of at most `10^12` fs
abbrev pub IsArcInto : Cone → ℕ → WalkArc → Type 0
IsArcInto cone n arc = (n < arc.from) × (arc.from < count_of cone) × Within arc.delay

-- an offer lies within `10^18` fs on either side of 0
abbrev pub IsLaunch : Cone → Launch → Type 0
IsLaunch cone launch = (launch.node < count_of cone) × (unsigned_abs launch.offer ≤ 10 ^ 18)

pub record IsEnd (cone : Cone) (end : WalkEnd) : Type 0 where
  pub node : end.node < count_of cone
  pub many : length end.launches < 2 ^ 32
  pub each : All (IsLaunch cone) end.launches

-- a cone has fewer nodes
abbrev pub most_nodes : ℕ
most_nodes = 8000000

-- a cone as it has to be: fewer than 8,000,000 nodes, arcs that lead to lower numbers,
-- at most one between two nodes, and ends and launches at its nodes
pub record IsCone (cone : Cone) : Type 0 where
  pub few : count_of cone < most_nodes
  pub starts : length cone.starts ≡ count_of cone + 1
  pub rising : (n : ℕ) → n < count_of cone → slice_index cone.starts n ≤ slice_index cone.starts (n + 1)
  pub stored : (n : ℕ) → n < count_of cone → slice_index cone.starts (n + 1) ≤ length cone.arcs
  pub arcs : (n : ℕ) → n < count_of cone → All (IsArcInto cone n) (listed_into cone n)
  pub apart : (n : ℕ) → n < count_of cone → AreApart (listed_into cone n)
  pub many : length cone.ends < 2 ^ 32
  pub ends : All (IsEnd cone) cone.ends

-- different nodes to which arcs lead from one node have different ranks
abbrev pub AreRanked : Cone → (ℕ → ℕ) → Type 0
AreRanked cone rank =
    (n a b : ℕ) → a < count_of cone → b < count_of cone → IsSome (delay_between cone n a) → IsSome (delay_between cone n b) → rank a ≡ rank b → a ≡ b

-- an order that knows the nodes of a cone and tells the ways out of a node apart
pub record IsOrdered (cone : Cone) (count : ℕ) (rank : ℕ → ℕ) : Type 0 where
  pub known : count_of cone ≤ count
  pub ranked : AreRanked cone rank
