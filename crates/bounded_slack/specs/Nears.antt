-- The nodes of the walks to an end node that have at most some slack, and what a search for them has found when it has
-- taken all nodes above some level: of each arc into a node that is taken the node before is taken, is still to be
-- taken, or has a bound that shuts it out (branch and bound).

use Rattle.std.specs.Prelude.{◌≡◌, ℕ, ◌<◌, ℤ, ◌+ℤ◌, ◌≤ℤ◌, pos, int_lt, Bool, true, false, List, map, length, get_or, All, Contains, ◌⊎◌, Option, Some, None}
use Rattle.worst_walks.specs.declared.cones.WalkArc.{WalkArc}
use Rattle.bounded_slack.specs.declared.reached.Held.{Held}
use Rattle.bounded_slack.specs.Nets.{Net, count_of, end_of, level_of, bound_of, delay_between, minus_some, walk_slack}
use Rattle.bounded_slack.specs.Cuts.{Sums, behind, room_of, AreBelow, IsFront, IsReached, RaisedIf}

-- numbers of nodes among which are all nodes of each walk that has at most a slack
pub record AreNear (net : Net) (most : ℤ) (nodes : List ℕ) : Type 0 where
  pub below : All (λ n. n < count_of net) nodes
  pub covers : (ns : List ℕ) (s : ℤ) → walk_slack net ns ≡ Some s → s ≤ℤ most → All (λ n. Contains nodes n) ns

-- a bound leaves no walk of at most this slack: nothing arrives there, or it is greater
abbrev pub is_past : ℤ → Option ℤ → Bool
is_past most None = true
is_past most (Some room) = int_lt most room

-- the node before an arc is raised, where it is not shut out
abbrev pub HasNeared : Net → ℤ → Held → WalkArc → Sums → Sums → Type 0
HasNeared net most held arc f g = RaisedIf (is_past most (room_of net (behind net held arc))) f g (behind net held arc)

-- nodes that were taken, each with the sum with which it was
abbrev pub Taken : Type 0
Taken = List (ℕ × ℤ)

abbrev pub node_of : ℕ × ℤ → ℕ
node_of = λ p. p.0

-- a node was taken, or is still to be taken, with at least a sum
abbrev pub IsTaken : Taken → ℕ → ℤ → Type 0
IsTaken pairs n y = (x : ℤ) × Contains pairs (n, x) × (y ≤ℤ x)

abbrev pub IsWaiting : Net → Sums → ℕ → ℤ → Type 0
IsWaiting net f n y = (x : ℤ) × (f (level_of net n) n ≡ Some x) × (y ≤ℤ x)

-- a node is shut out with a sum
abbrev pub IsShut : Net → ℤ → ℕ → ℤ → Type 0
IsShut net most n y = is_past most (minus_some (bound_of net n) (Some y)) ≡ true

-- a node is taken, waits, is shut out, or is met in another way
abbrev pub IsMet : Net → ℤ → Sums → Taken → (ℕ → ℤ → Type 0) → ℕ → ℤ → Type 0
IsMet net most f pairs otherwise n y = IsTaken pairs n y ⊎ (IsWaiting net f n y ⊎ (IsShut net most n y ⊎ otherwise n y))

-- the end node and each node before one that is taken is met
pub record IsNearing (net : Net) (most : ℤ) (f : Sums) (nodes : List ℕ) (otherwise : ℕ → ℤ → Type 0) : Type 0 where
  pub pairs : Taken
  pub listed : nodes ≡ map node_of pairs
  pub low : (n : ℕ) (x : ℤ) → Contains pairs (n, x) → n < count_of net
  pub held : (level node : ℕ) (sum : ℤ) → f level node ≡ Some sum → IsReached net level node sum
  pub end : IsMet net most f pairs otherwise (end_of net) (pos 0)
  pub arcs : (n m : ℕ) (x d : ℤ) → Contains pairs (n, x) → delay_between net m n ≡ Some d → IsMet net most f pairs otherwise m (d +ℤ x)

-- in no other way, and by the node that is taken next
abbrev pub IsNowhere : ℕ → ℤ → Type 0
IsNowhere n y = ⊥

abbrev pub IsNextTaken : Option Held → ℕ → ℤ → Type 0
IsNextTaken None n y = ⊥
IsNextTaken (Some held) n y = (n ≡ held.node) × (y ≤ℤ held.sum)

-- a node is to be taken that lies above all that is left
pub record IsNearSearch (net : Net) (most : ℤ) (f : Sums) (nodes : List ℕ) (next : Option Held) : Type 0 where
  pub nearing : IsNearing net most f nodes (IsNextTaken next)
  pub front : IsFront net f next

-- a node has been taken, and the nodes before it are met
pub record IsNearSpread (net : Net) (most : ℤ) (f : Sums) (nodes : List ℕ) (held : Held) : Type 0 where
  pub nearing : IsNearing net most f nodes IsNowhere
  pub below : AreBelow held.level held.node f

-- the node before an arc waits or is shut out
abbrev pub IsArcMet : Net → ℤ → Sums → ℤ → ℕ → ℤ → Type 0
IsArcMet net most g sum m d = IsWaiting net g m (d +ℤ sum) ⊎ IsShut net most m (d +ℤ sum)

-- the first arcs of a list are followed
pub record HasSpread (net : Net) (most : ℤ) (f g : Sums) (held : Held) (arcs : List WalkArc) (count : ℕ) : Type 0 where
  pub reached : ((level node : ℕ) (sum : ℤ) → f level node ≡ Some sum → IsReached net level node sum) → (level node : ℕ) (sum : ℤ) → g level node ≡ Some sum → IsReached net level node sum
  pub more : (n : ℕ) (y : ℤ) → IsWaiting net f n y → IsWaiting net g n y
  pub each : (k : ℕ) (e : WalkArc) → k < count → k < length arcs → IsArcMet net most g held.sum (get_or arcs k e).from (get_or arcs k e).delay
  pub below : AreBelow held.level held.node f → AreBelow held.level held.node g
