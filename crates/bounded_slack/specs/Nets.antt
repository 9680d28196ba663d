-- The timing arcs in front of an end node as a search asks for them, node by node, and the least slack
-- of the walks to the end node (graph-based analysis as a longest path; path slack as in OpenTimer).

use Rattle.std.specs.Prelude.{◌≡◌, ℕ, ◌^◌, ◌<◌, ◌≤◌, ◌==◌, ℤ, ◌-ℤ◌, ◌≤ℤ◌, unsigned_abs, int_lt, if◌then◌else◌, List, [], ◌∷◌, All, ◌⊎◌, Option, Some, None}
use Rattle.sta_units.specs.Numbers.{Within}
use Rattle.worst_walks.specs.declared.cones.WalkArc.{WalkArc}
use Rattle.worst_walks.specs.Walks.{walk_sum, delay_in, AreApart}

-- what a search asks of numbered nodes: how many numbers there are, the end node, for each node a level
-- and a place that rise along arcs, the arcs into it, what a launch at it offers (a walk with the delay
-- sum `s` has the slack `offer - s`), and a bound: no walk to it from a launch leaves less of an offer
pub record Net : Type 0 where
  pub count : ℕ
  pub end : ℕ
  pub level : ℕ → ℕ
  pub place : ℕ → ℕ
  pub arcs : ℕ → List WalkArc
  pub offer : ℕ → Option ℤ
  pub bound : ℕ → Option ℤ

abbrev pub count_of : Net → ℕ
count_of net = net.count

abbrev pub end_of : Net → ℕ
end_of net = net.end

abbrev pub level_of : Net → ℕ → ℕ
level_of net n = net.level n

abbrev pub place_of : Net → ℕ → ℕ
place_of net n = net.place n

abbrev pub arcs_into : Net → ℕ → List WalkArc
arcs_into net n = net.arcs n

abbrev pub offer_of : Net → ℕ → Option ℤ
offer_of net n = net.offer n

abbrev pub bound_of : Net → ℕ → Option ℤ
bound_of net n = net.bound n

abbrev pub delay_between : Net → ℕ → ℕ → Option ℤ
delay_between net n m = delay_in (arcs_into net m) n

-- the sum of the delays of a walk from a node by others to the end node
abbrev pub sum_to : Net → ℕ → List ℕ → Option ℤ
sum_to net n ns = walk_sum ◌==◌ (delay_between net) (end_of net) n ns

abbrev pub minus_some : Option ℤ → Option ℤ → Option ℤ
minus_some None y = None
minus_some (Some x) None = None
minus_some (Some x) (Some y) = Some (x -ℤ y)

-- the lesser of two slacks, where there are two
abbrev pub lesser : Option ℤ → Option ℤ → Option ℤ
lesser None t = t
lesser (Some s) None = Some s
lesser (Some s) (Some t) = (if int_lt t s then Some t else Some s)

-- the slack of a list of nodes, where it is a walk from a launch to the end node
abbrev pub walk_slack : Net → List ℕ → Option ℤ
walk_slack net [] = None
walk_slack net (n ∷ ns) = minus_some (offer_of net n) (sum_to net n ns)

abbrev pub IsSlack : Net → ℤ → Type 0
IsSlack net s = (ns : List ℕ) × (walk_slack net ns ≡ Some s)

-- the least slack of all walks; None: there is no walk
abbrev pub IsLeastSlack : Net → Option ℤ → Type 0
IsLeastSlack net None = (s : ℤ) → IsSlack net s → ⊥
IsLeastSlack net (Some s) = IsSlack net s × ((t : ℤ) → IsSlack net t → s ≤ℤ t)

-- there, and at most a number
abbrev pub IsAtMost : Option ℤ → ℤ → Type 0
IsAtMost None v = ⊥
IsAtMost (Some x) v = x ≤ℤ v

-- the least slack of all walks to two end nodes; None: there is no walk to either
pub record IsLeastOfTwo (one other : Net) (least : Option ℤ) : Type 0 where
  pub its : (s : ℤ) → least ≡ Some s → IsSlack one s ⊎ IsSlack other s
  pub all_one : (s : ℤ) → IsSlack one s → IsAtMost least s
  pub all_other : (s : ℤ) → IsSlack other s → IsAtMost least s

-- an arc into the node leads from a lower level and a lower place, with a delay within the limit
abbrev pub IsArcInto : Net → ℕ → WalkArc → Type 0
IsArcInto net n arc =
    (arc.from < count_of net) × (level_of net arc.from < level_of net n) × (place_of net arc.from < place_of net n) × Within arc.delay

-- within `10^18` fs on either side of 0, where there is one
abbrev pub IsLow : Option ℤ → Type 0
IsLow None = Unit {0}
IsLow (Some x) = unsigned_abs x ≤ 10 ^ 18

-- nodes, arcs and numbers as they have to be: at most one arc between two nodes, and a place of the end
-- node below `2^22`, so that sums of delays along walks are in range
pub record IsShape (net : Net) : Type 0 where
  pub few : count_of net ≤ 2 ^ 32
  pub end : end_of net < count_of net
  pub high : place_of net (end_of net) < 2 ^ 22
  pub arcs : (n : ℕ) → n < count_of net → All (IsArcInto net n) (arcs_into net n)
  pub apart : (n : ℕ) → n < count_of net → AreApart (arcs_into net n)
  pub offers : (n : ℕ) → n < count_of net → IsLow (offer_of net n)
  pub bounds : (n : ℕ) → n < count_of net → IsLow (bound_of net n)

-- the bound of a node is at most that of the node before it less the delay between them
abbrev pub IsFalling : Net → ℕ → WalkArc → Type 0
IsFalling net n arc = (b : ℤ) → bound_of net arc.from ≡ Some b → IsAtMost (bound_of net n) (b -ℤ arc.delay)

-- and the bound is one: at most each offer, and falling along each arc
pub record IsNet (net : Net) : Type 0 where
  pub shape : IsShape net
  pub launched : (n : ℕ) (o : ℤ) → n < count_of net → offer_of net n ≡ Some o → IsAtMost (bound_of net n) o
  pub passed : (n : ℕ) → n < count_of net → All (IsFalling net n) (arcs_into net n)
