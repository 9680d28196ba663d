-- The bound by arrivals on launch edges.

use Rattle.std.proofs.Common.{◌≡◌, ℕ, zero, suc, ◌<◌, ℤ, ◌+ℤ◌, ◌-ℤ◌, ◌≤ℤ◌, ◌⊎◌, inl, inr, List, [], ◌∷◌, length, get_or, slice_index_or, Option, Some, None, Bool, true, false, cond, ◌&&◌, nat_eq, refl, sym, subst, ◌∙◌, arith}
use Rattle.std.specs.Prelude.{All, Contains, find, option_map}
use Rattle.std.proofs.lemmas.Int.{ints}
use Rattle.std.proofs.lemmas.Option.{none-some, same_Some}
use Rattle.std.proofs.lemmas.List.Elements.{All-head, All-tail}
use Rattle.sta_units.specs.Numbers.{Within}
use Rattle.timing_defs.specs.declared.kinds.Tran.{Tran}
use Rattle.timing_defs.specs.declared.edge_times.EdgeTime.{EdgeTime}
use Rattle.timing_defs.specs.Netlist.{same_tran}
use Rattle.timing_defs.specs.RowTimes.{time_on}
use Rattle.worst_walks.specs.declared.cones.WalkArc.{WalkArc}
use Rattle.bounded_slack.specs.Nets.{Net, arcs_into, lesser, IsAtMost, IsNet}
use Rattle.bounded_slack.specs.Rows.{edge_in, room_on, least_room, IsAtLeast, IsLater, IsOffered, IsByRows}
use Rattle.bounded_slack.proofs.Prefixes.{taken, minus_is, weaker, lesser_left, lesser_right, lesser_one}

abbrev Times : Type 0
Times = ℕ × Tran → Option ℤ

least_keeps : (time : Times) (lows : List EdgeTime) (least : Option ℤ) (v : ℤ) → IsAtMost least v → IsAtMost (least_room time least lows) v
least_keeps time [] least v h = h
least_keeps time (low ∷ lows) least v h = least_keeps time lows (lesser least (room_on time low)) v (lesser_left least (room_on time low) v h)

-- the least room is at most that on each edge
not_less : (x t : ℤ) → (x -ℤ t) ≤ℤ (x -ℤ t)
not_less x t = omega (arith, ints)

room_here : (time : Times) (low : EdgeTime) (t : ℤ) → time (edge_in low) ≡ Some t → IsAtMost (room_on time low) (low.time.0 -ℤ t)
room_here time low t e =
    subst (λ o. IsAtMost o (low.time.0 -ℤ t)) (sym (minus_is (Some low.time.0) (time (edge_in low)) low.time.0 t refl e)) (not_less low.time.0 t)

room-at : (time : Times) (lows : List EdgeTime) (least : Option ℤ) (low : EdgeTime) (t : ℤ) (k : ℕ) → k < length lows → slice_index_or lows k low ≡ low
    → time (edge_in low) ≡ Some t → IsAtMost (least_room time least lows) (low.time.0 -ℤ t)
room-at time [] least low t k under at e = absurd (omega arith)
room-at time (first ∷ lows) least low t zero under at e =
    least_keeps time lows (lesser least (room_on time first)) (low.time.0 -ℤ t)
    (lesser_right least (room_on time first) (low.time.0 -ℤ t)
    (subst (λ (x : EdgeTime). IsAtMost (room_on time x) (low.time.0 -ℤ t)) (sym at) (room_here time low t e)))
room-at time (first ∷ lows) least low t (suc k) under at e = room-at time lows (lesser least (room_on time first)) low t k (omega arith) at e

pub room_at : (time : Times) (lows : List EdgeTime) (low : EdgeTime) (t : ℤ) → Contains lows low → time (edge_in low) ≡ Some t
    → IsAtMost (least_room time None lows) (low.time.0 -ℤ t)
room_at time lows low t c e = room-at time lows None low t c.0 c.1 c.2 e

-- and it is that on some edge
record Attained (time : Times) (lows : List EdgeTime) (b : ℤ) : Type 0 where
  low : EdgeTime
  within : Contains lows low
  arrives : ℤ
  its : time (edge_in low) ≡ Some arrives
  is : low.time.0 -ℤ arrives ≡ b

first-attained : (time : Times) (first : EdgeTime) (lows : List EdgeTime) (b : ℤ) → room_on time first ≡ Some b → Attained time (first ∷ lows) b
first-attained time first lows b e =
    let p = taken (Some first.time.0) (time (edge_in first)) b e in
    let one : first.time.0 ≡ p.one = same_Some first.time.0 p.one p.first in
    let sum : p.one -ℤ p.other ≡ b = p.is in
    record { low = first; within = (0, omega arith, refl); arrives = p.other; its = p.second; is = omega (arith, ints) }

more-attained : (time : Times) (first : EdgeTime) (lows : List EdgeTime) (b : ℤ) → Attained time lows b → Attained time (first ∷ lows) b
more-attained time first lows b a =
    let c = a.within in
    let under : c.0 < length lows = c.1 in
    record { low = a.low; within = (suc c.0, omega arith, c.2); arrives = a.arrives; its = a.its; is = a.is }

attained : (time : Times) (lows : List EdgeTime) (least : Option ℤ) (b : ℤ) → least_room time least lows ≡ Some b → (least ≡ Some b) ⊎ Attained time lows b
attained time [] least b e = inl e
attained time (first ∷ lows) least b e = elim (attained time lows (lesser least (room_on time first)) b e) [
  | inl one ↦ elim (lesser_one least (room_on time first) b one) [ inl old ↦ inl old | inr new ↦ inr (first-attained time first lows b new) ]
  | inr more ↦ inr (more-attained time first lows b more)
]

falls-on : (lows : List EdgeTime) (arrival : ℕ → Times) (n : ℕ) (arc : WalkArc) (b : ℤ) (a : Attained (arrival arc.from) lows b) (o : Option ℤ)
    → arrival n (edge_in a.low) ≡ o → IsAtLeast o (a.arrives +ℤ arc.delay) → IsAtMost (least_room (arrival n) None lows) (b -ℤ arc.delay)
falls-on lows arrival n arc b a None e h = absurd h
falls-on lows arrival n arc b a (Some t) e h =
    let later : (a.arrives +ℤ arc.delay) ≤ℤ t = h in
    let is : a.low.time.0 -ℤ a.arrives ≡ b = a.is in
    let less : (a.low.time.0 -ℤ t) ≤ℤ (b -ℤ arc.delay) = omega (arith, ints) in
    weaker (least_room (arrival n) None lows) (a.low.time.0 -ℤ t) (b -ℤ arc.delay) (room_at (arrival n) lows a.low t a.within e) less

falls : (lows : List EdgeTime) (arrival : ℕ → Times) (n : ℕ) (arc : WalkArc) (b : ℤ) → IsLater arrival n arc → least_room (arrival arc.from) None lows ≡ Some b
    → IsAtMost (least_room (arrival n) None lows) (b -ℤ arc.delay)
falls lows arrival n arc b later e = elim (attained (arrival arc.from) lows None b e) [
  | inl none ↦ absurd (none-some b none)
  | inr a ↦ falls-on lows arrival n arc b a (arrival n (edge_in a.low)) refl (later (edge_in a.low) a.arrives a.its)
]

offered : (lows : List EdgeTime) (time : Times) (o : ℤ) → IsOffered lows time o → IsAtMost (least_room time None lows) o
offered lows time o h = weaker (least_room time None lows) (h.low.time.0 -ℤ h.arrives) o (room_at time lows h.low h.arrives h.within h.its) h.least

-- nodes that are bounded by arrivals are as a search wants them
pub net_of_rows : (net : Net) → IsByRows net → IsNet net
net_of_rows net h = record {
  shape = h.shape;
  launched = λ n o low e. subst (λ x. IsAtMost x o) (sym (h.bounded.bound n low)) (offered h.lows (h.arrival n) o (h.bounded.offer n o low e));
  passed = λ n low i d under b e. subst (λ x. IsAtMost x (b -ℤ (get_or (arcs_into net n) i d).delay)) (sym (h.bounded.bound n low))
      (falls h.lows h.arrival n (get_or (arcs_into net n) i d) b (h.arrivals n low i d under)
      (sym (h.bounded.bound (get_or (arcs_into net n) i d).from (h.shape.arcs n low i d under).0) ∙ e));
}

-- the time on an edge is one of the list
within-by : (p : EdgeTime → Bool) (time : EdgeTime) (times : List EdgeTime) (x : ℤ) (same : Bool) → Within time.time.0
    → (option_map (λ (t : EdgeTime). t.time.0) (find p times) ≡ Some x → Within x)
    → option_map (λ (t : EdgeTime). t.time.0) (cond same (Some time) (find p times)) ≡ Some x → Within x
within-by p time times x true here more e = subst Within (same_Some time.time.0 x e) here
within-by p time times x false here more e = more e

within-in : (p : EdgeTime → Bool) (times : List EdgeTime) (x : ℤ) → All (λ (t : EdgeTime). Within t.time.0) times
    → option_map (λ (t : EdgeTime). t.time.0) (find p times) ≡ Some x → Within x
within-in p [] x h e = absurd (none-some x e)
within-in p (time ∷ times) x h e =
    within-by p time times x (p time) (All-head (λ (t : EdgeTime). Within t.time.0) time times h)
    (within-in p times x (All-tail (λ (t : EdgeTime). Within t.time.0) time times h)) e

pub time_within : (times : List EdgeTime) (edge : ℕ × Tran) (x : ℤ) → All (λ (t : EdgeTime). Within t.time.0) times → time_on times edge ≡ Some x → Within x
time_within times edge x h e = within-in (λ t. nat_eq t.clock edge.0 && same_tran t.tran edge.1) times x h e
