-- What a search has found when it has taken all nodes above some level: for each slack a node that it
-- still has to take stands for it, or the least slack found is at most it (branch and bound).

use Rattle.std.specs.Prelude.{◌≡◌, ℕ, ◌+◌, ◌*◌, ◌^◌, ◌<◌, ◌≤◌, ℤ, pos, ◌+ℤ◌, ◌-ℤ◌, ◌≤ℤ◌, unsigned_abs, int_lt, Bool, true, false, not, if◌then◌else◌, List, [], ◌∷◌, ◌⊎◌, Option, Some, None}
use Rattle.std.specs.Ordering.{nat_cmp, ordering_then}
use Rattle.std.specs.declared.cmp.Ordering.{Ordering}
use Rattle.std.specs.declared.cmp.Ordering.TheVariants.{Less}
use Rattle.std.specs.BTreeMap.{get}
use Rattle.worst_walks.specs.declared.cones.WalkArc.{WalkArc}
use Rattle.bounded_slack.specs.declared.reached.Held.{Held}
use Rattle.bounded_slack.specs.declared.reached.Reached.{Reached}
use Rattle.bounded_slack.specs.Nets.{Net, count_of, end_of, level_of, place_of, offer_of, bound_of, delay_between, sum_to, minus_some, IsSlack, IsAtMost}

-- nodes that are reached, by level and number, each with a sum
abbrev pub Sums : Type 0
Sums = ℕ → ℕ → Option ℤ

-- by level, then by number
abbrev pub key_cmp : ℕ × ℕ → ℕ × ℕ → Ordering
key_cmp = λ a b. ordering_then (nat_cmp a.0 b.0) (nat_cmp a.1 b.1)

abbrev pub sum_at : Reached → Sums
sum_at reached = λ level node. get key_cmp reached.sums (level, node)

-- the greater of a sum that is there and a further one
abbrev pub greater : Option ℤ → ℤ → ℤ
greater None y = y
greater (Some x) y = (if int_lt x y then y else x)

abbrev pub AreSame : Sums → Sums → Type 0
AreSame f g = (level node : ℕ) → g level node ≡ f level node

abbrev pub AreNone : Sums → Type 0
AreNone f = (level node : ℕ) → f level node ≡ None

-- all but one node have the sums that they had
abbrev pub AreOthers : Sums → Sums → ℕ → ℕ → Type 0
AreOthers f g level node = (l n : ℕ) → ((l ≡ level) × (n ≡ node) → ⊥) → g l n ≡ f l n

-- a node has the greater of its sum and a further one
pub record HasRaised (f g : Sums) (level node : ℕ) (sum : ℤ) : Type 0 where
  pub here : g level node ≡ Some (greater (f level node) sum)
  pub others : AreOthers f g level node

abbrev pub AreBelow : ℕ → ℕ → Sums → Type 0
AreBelow level node f = (l n : ℕ) (x : ℤ) → f l n ≡ Some x → key_cmp (l, n) (level, node) ≡ Less

-- the last node is taken
pub record HasPopped (f g : Sums) (level node : ℕ) (sum : ℤ) : Type 0 where
  pub was : f level node ≡ Some sum
  pub gone : g level node ≡ None
  pub others : AreOthers f g level node
  pub below : AreBelow level node g

abbrev pub IsPopped : Sums → Sums → Option Held → Type 0
IsPopped f g None = AreNone f × AreNone g
IsPopped f g (Some held) = HasPopped f g held.level held.node held.sum

-- what a walk to a node from its launch leaves of the offer, over the nodes before it, the nearest first
abbrev pub headroom : Net → ℕ → List ℕ → Option ℤ
headroom net n [] = offer_of net n
headroom net n (m ∷ ms) = minus_some (headroom net m ms) (delay_between net m n)

-- some walk from a launch to a node, going on by a sum, has at most this slack
pub record IsThrough (net : Net) (n : ℕ) (x s : ℤ) : Type 0 where
  pub before : List ℕ
  pub room : ℤ
  pub is : headroom net n before ≡ Some room
  pub least : (room -ℤ x) ≤ℤ s

-- a node with its level, and the sum of a walk from it to the end node
pub record IsReached (net : Net) (level node : ℕ) (sum : ℤ) : Type 0 where
  pub low : node < count_of net
  pub its : level ≡ level_of net node
  pub rest : List ℕ
  pub adds : sum_to net node rest ≡ Some sum
  pub range : unsigned_abs sum + 10 ^ 12 * place_of net node ≤ 10 ^ 12 * place_of net (end_of net)

abbrev pub IsHeld : Net → Held → Type 0
IsHeld net held = IsReached net held.level held.node held.sum

-- a node still to be taken stands for a slack
pub record IsAhead (net : Net) (f : Sums) (s : ℤ) : Type 0 where
  pub node : ℕ
  pub best : ℤ
  pub held : f (level_of net node) node ≡ Some best
  pub through : IsThrough net node best s

-- all nodes reached have walks to the end node, the slack found is one, and for each slack there is one
-- found that is at most it, a node ahead, or what waits
pub record IsCut (net : Net) (f : Sums) (least : Option ℤ) (waits : ℤ → Type 0) : Type 0 where
  pub held : (level node : ℕ) (sum : ℤ) → f level node ≡ Some sum → IsReached net level node sum
  pub known : (s : ℤ) → least ≡ Some s → IsSlack net s
  pub covers : (s : ℤ) → IsSlack net s → IsAtMost least s ⊎ (IsAhead net f s ⊎ waits s)

-- nothing waits
abbrev pub IsNever : ℤ → Type 0
IsNever s = ⊥

-- what a node that is taken stands for
abbrev pub IsNext : Net → Option Held → ℤ → Type 0
IsNext net None s = ⊥
IsNext net (Some held) s = IsThrough net held.node held.sum s

-- what arcs that are still to be followed stand for
abbrev pub IsStill : Net → ℤ → List WalkArc → ℤ → Type 0
IsStill net x [] s = ⊥
IsStill net x (arc ∷ arcs) s = IsThrough net arc.from (arc.delay +ℤ x) s ⊎ IsStill net x arcs s

-- the node that is taken has its walk, and lies above all that is left
abbrev pub IsFront : Net → Sums → Option Held → Type 0
IsFront net f None = AreNone f
IsFront net f (Some held) = IsHeld net held × AreBelow held.level held.node f

pub record IsSearching (net : Net) (f : Sums) (least : Option ℤ) (next : Option Held) : Type 0 where
  pub cut : IsCut net f least (IsNext net next)
  pub front : IsFront net f next

-- a node has been taken and its arcs up to some are followed
pub record IsSpread (net : Net) (f : Sums) (least : Option ℤ) (held : Held) (waits : ℤ → Type 0) : Type 0 where
  pub cut : IsCut net f least waits
  pub below : AreBelow held.level held.node f

-- a number that falls from one node taken to the next
abbrev pub top_of : Option Held → ℕ
top_of None = 0
top_of (Some held) = held.level * 2 ^ 32 + held.node + 1

-- nothing better comes through a node with this room: nothing arrives there, or the least slack found is at most it
abbrev pub is_shut : Option ℤ → Option ℤ → Bool
is_shut least None = true
is_shut None (Some room) = false
is_shut (Some s) (Some room) = not (int_lt room s)

abbrev pub room_of : Net → Held → Option ℤ
room_of net held = minus_some (bound_of net held.node) (Some held.sum)

-- the end node with the empty walk, and the node before an arc
abbrev pub end_held : Net → Held
end_held net = record { level = level_of net (end_of net); node = end_of net; sum = pos 0 }

abbrev pub arc_held : ℕ → Held → WalkArc → Held
arc_held level held arc = record { level = level; node = arc.from; sum = arc.delay +ℤ held.sum }

abbrev pub behind : Net → Held → WalkArc → Held
behind net held arc = arc_held (level_of net arc.from) held arc

-- an arc is followed, where it is not shut
abbrev pub RaisedIf : Bool → Sums → Sums → Held → Type 0
RaisedIf true f g held = AreSame f g
RaisedIf false f g held = HasRaised f g held.level held.node held.sum

abbrev pub HasFollowed : Net → Option ℤ → Held → WalkArc → Sums → Sums → Type 0
HasFollowed net least held arc f g = RaisedIf (is_shut least (room_of net (behind net held arc))) f g (behind net held arc)

-- a slack of some walk, where there is one
abbrev pub IsKnown : Net → Option ℤ → Type 0
IsKnown net None = Unit {0}
IsKnown net (Some s) = IsSlack net s

-- a node of a lower level with its walk, where there is one
abbrev pub IsBehind : Net → Held → Option Held → Type 0
IsBehind net held None = Unit {0}
IsBehind net held (Some next) = IsHeld net next × (next.level < held.level)

-- a number that falls from one node of the first walk to the next
abbrev pub height_of : Option Held → ℕ
height_of None = 0
height_of (Some held) = held.level + 1
