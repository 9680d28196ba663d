-- Walks cut at a node: from the launch to it, the nearest node first, and from it to the end node.

use Rattle.std.proofs.Common.{◌≡◌, ℕ, ◌<◌, ℤ, pos, ◌+ℤ◌, ◌-ℤ◌, ◌≤ℤ◌, Bool, true, false, not, ◌==◌, if◌then◌else◌, ◌⊎◌, inl, inr, List, [], ◌∷◌, Option, Some, None, refl, sym, ap, subst, ◌∙◌, arith, true≢false, int_lt}
use Rattle.std.specs.Prelude.{All}
use Rattle.std.proofs.lemmas.Bool.{eqb-true}
use Rattle.std.proofs.lemmas.Int.{ints}
use Rattle.std.proofs.lemmas.List.Elements.{All-head, All-tail}
use Rattle.std.proofs.lemmas.Option.{none-some, same_Some}
use Rattle.sta_units.specs.Numbers.{Within}
use Rattle.timing_defs.specs.RowTimes.{plus_some}
use Rattle.worst_walks.specs.declared.cones.WalkArc.{WalkArc}
use Rattle.worst_walks.specs.Walks.{delay_in}
use Rattle.bounded_slack.specs.Nets.{Net, count_of, end_of, level_of, place_of, arcs_into, offer_of, bound_of, delay_between, sum_to, minus_some, lesser, walk_slack, IsAtMost, IsShape, IsNet}
use Rattle.bounded_slack.specs.Cuts.{headroom, is_shut, IsThrough}

-- sums and differences that are there have both parts
pub record Added (o p : Option ℤ) (s : ℤ) : Type 0 where
  pub one : ℤ
  pub other : ℤ
  pub first : o ≡ Some one
  pub second : p ≡ Some other
  pub is : one +ℤ other ≡ s

pub added : (o p : Option ℤ) (s : ℤ) → plus_some o p ≡ Some s → Added o p s
added None p s e = absurd (none-some s e)
added (Some x) None s e = absurd (none-some s e)
added (Some x) (Some y) s e = record { one = x; other = y; first = refl; second = refl; is = same_Some (x +ℤ y) s e }

pub record Taken (o p : Option ℤ) (s : ℤ) : Type 0 where
  pub one : ℤ
  pub other : ℤ
  pub first : o ≡ Some one
  pub second : p ≡ Some other
  pub is : one -ℤ other ≡ s

pub taken : (o p : Option ℤ) (s : ℤ) → minus_some o p ≡ Some s → Taken o p s
taken None p s e = absurd (none-some s e)
taken (Some x) None s e = absurd (none-some s e)
taken (Some x) (Some y) s e = record { one = x; other = y; first = refl; second = refl; is = same_Some (x -ℤ y) s e }

pub minus_is : (o p : Option ℤ) (x y : ℤ) → o ≡ Some x → p ≡ Some y → minus_some o p ≡ Some (x -ℤ y)
minus_is None p x y e f = absurd (none-some x e)
minus_is (Some v) None x y e f = absurd (none-some y f)
minus_is (Some v) (Some w) x y e f =
    let a : v ≡ x = same_Some v x e in
    let b : w ≡ y = same_Some w y f in
    let is : v -ℤ w ≡ x -ℤ y = omega (arith, ints) in
    ap Some is

pub plus_is : (o p : Option ℤ) (x y : ℤ) → o ≡ Some x → p ≡ Some y → plus_some o p ≡ Some (x +ℤ y)
plus_is None p x y e f = absurd (none-some x e)
plus_is (Some v) None x y e f = absurd (none-some y f)
plus_is (Some v) (Some w) x y e f =
    let a : v ≡ x = same_Some v x e in
    let b : w ≡ y = same_Some w y f in
    let is : v +ℤ w ≡ x +ℤ y = omega (arith, ints) in
    ap Some is

-- what is true of all arcs into a node is true where a delay is found
there-by : (P : ℕ → ℤ → Type 0) (arc : WalkArc) (arcs : List WalkArc) (m : ℕ) (d : ℤ) (same : Bool) → (arc.from == m) ≡ same
    → P arc.from arc.delay → (delay_in arcs m ≡ Some d → P m d) → (if same then Some arc.delay else delay_in arcs m) ≡ Some d → P m d
there-by P arc arcs m d true e here more f =
    let at : arc.from ≡ m = eqb-true arc.from m e in
    let is : arc.delay ≡ d = same_Some arc.delay d f in
    subst (λ x. P m x) is (subst (λ x. P x arc.delay) at here)
there-by P arc arcs m d false e here more f = more f

pub arc_there : (P : ℕ → ℤ → Type 0) (arcs : List WalkArc) (m : ℕ) (d : ℤ) → All (λ (arc : WalkArc). P arc.from arc.delay) arcs
    → delay_in arcs m ≡ Some d → P m d
arc_there P [] m d h e = absurd (none-some d e)
arc_there P (arc ∷ arcs) m d h e =
    there-by P arc arcs m d (arc.from == m) refl (All-head (λ (a : WalkArc). P a.from a.delay) arc arcs h)
    (arc_there P arcs m d (All-tail (λ (a : WalkArc). P a.from a.delay) arc arcs h)) e

-- at most
pub weaker : (o : Option ℤ) (v w : ℤ) → IsAtMost o v → v ≤ℤ w → IsAtMost o w
weaker None v w h le = h
weaker (Some x) v w h le = let low : x ≤ℤ v = h in omega (arith, ints)

module _ (net : Net) where
  abbrev pub IsInto : ℕ → ℕ → ℤ → Type 0
  IsInto n m d = (m < count_of net) × (level_of net m < level_of net n) × (place_of net m < place_of net n) × Within d

  pub arc_into : IsShape net → (n m : ℕ) (d : ℤ) → n < count_of net → delay_between net m n ≡ Some d → IsInto n m d
  arc_into shape n m d low e = arc_there (IsInto n) (arcs_into net n) m d (shape.arcs n low) e

  -- a walk to a node and one from it on are a walk to the end node
  abbrev pub AtEnd : ℤ → Type 0
  AtEnd s = (before : List ℕ) × (headroom net (end_of net) before ≡ Some s)

  at-end : (n : ℕ) (before : List ℕ) (room x : ℤ) (same : Bool) → (n == end_of net) ≡ same → headroom net n before ≡ Some room
      → (if same then Some (pos 0) else None) ≡ Some x → AtEnd (room -ℤ x)
  at-end n before room x false e h f = absurd (none-some x f)
  at-end n before room x true e h f =
      let here : n ≡ end_of net = eqb-true n (end_of net) e in
      let nothing : pos 0 ≡ x = same_Some (pos 0) x f in
      let is : room ≡ room -ℤ x = omega (arith, ints) in
      (before, subst (λ m. headroom net m before ≡ Some room) here h ∙ ap Some is)

  onward : (n : ℕ) (before rest : List ℕ) (room x : ℤ) → headroom net n before ≡ Some room → sum_to net n rest ≡ Some x → AtEnd (room -ℤ x)
  onward n before [] room x h f = at-end n before room x (n == end_of net) refl h f
  onward n before (m ∷ ms) room x h f =
      let p = added (delay_between net n m) (sum_to net m ms) x f in
      let here : headroom net m (n ∷ before) ≡ Some (room -ℤ p.one) = minus_is (headroom net n before) (delay_between net n m) room p.one h p.first in
      let more : AtEnd ((room -ℤ p.one) -ℤ p.other) = onward m (n ∷ before) ms (room -ℤ p.one) p.other here p.second in
      let sum : p.one +ℤ p.other ≡ x = p.is in
      let is : (room -ℤ p.one) -ℤ p.other ≡ room -ℤ x = omega (arith, ints) in
      subst AtEnd is more

  pub backward : (ns : List ℕ) (s : ℤ) → walk_slack net ns ≡ Some s → AtEnd s
  backward [] s e = absurd (none-some s e)
  backward (n ∷ ns) s e =
      let p = taken (offer_of net n) (sum_to net n ns) s e in
      subst AtEnd p.is (onward n [] ns p.one p.other p.first p.second)

  passed-by : (n m : ℕ) (d room : ℤ) (o : Option ℤ) → bound_of net m ≡ o
      → ((b : ℤ) → bound_of net m ≡ Some b → IsAtMost (bound_of net n) (b -ℤ d)) → IsAtMost o room → IsAtMost (bound_of net n) (room -ℤ d)
  passed-by n m d room None e law h = absurd h
  passed-by n m d room (Some b) e law h =
      let low : b ≤ℤ room = h in
      let less : (b -ℤ d) ≤ℤ (room -ℤ d) = omega (arith, ints) in
      weaker (bound_of net n) (b -ℤ d) (room -ℤ d) (law b e) less

  -- the bound of a node is one of all walks to it
  pub room_bound : IsNet net → (n : ℕ) (before : List ℕ) (room : ℤ) → n < count_of net → headroom net n before ≡ Some room → IsAtMost (bound_of net n) room
  room_bound good n [] room low h = good.launched n room low h
  room_bound good n (m ∷ ms) room low h =
      let p = taken (headroom net m ms) (delay_between net m n) room h in
      let into = arc_into good.shape n m p.other low p.second in
      let law = arc_there (λ k x. (b : ℤ) → bound_of net k ≡ Some b → IsAtMost (bound_of net n) (b -ℤ x)) (arcs_into net n) m p.other (good.passed n low) p.second in
      subst (IsAtMost (bound_of net n)) p.is
      (passed-by n m p.other p.one (bound_of net m) refl law (room_bound good m ms p.one into.0 p.first))

not_true : (b : Bool) → not b ≡ true → b ≡ false
not_true false e = refl
not_true true e = absurd (true≢false (sym e))

at_most-by : (v b x room s : ℤ) → int_lt (b -ℤ x) v ≡ false → b ≤ℤ room → (room -ℤ x) ≤ℤ s → v ≤ℤ s
at_most-by v b x room s off low le = grind (arith, ints)

shut-by : (u o : Option ℤ) (x room s : ℤ) → IsAtMost o room → (room -ℤ x) ≤ℤ s → is_shut u (minus_some o (Some x)) ≡ true → IsAtMost u s
shut-by u None x room s h le e = absurd h
shut-by None (Some b) x room s h le e = absurd (true≢false (sym e))
shut-by (Some v) (Some b) x room s h le e =
    let low : b ≤ℤ room = h in
    let off : int_lt (b -ℤ x) v ≡ false = not_true (int_lt (b -ℤ x) v) e in
    at_most-by v b x room s off low le

-- nothing better comes through a node that is shut out
pub shut_out : (net : Net) (u : Option ℤ) (n : ℕ) (x s : ℤ) → IsNet net → n < count_of net → is_shut u (minus_some (bound_of net n) (Some x)) ≡ true
    → IsThrough net n x s → IsAtMost u s
shut_out net u n x s good low e h = shut-by u (bound_of net n) x h.room s (room_bound net good n h.before h.room low h.is) h.least e

-- the lesser of two slacks
less_here : (v w s : ℤ) → int_lt w v ≡ true → v ≤ℤ s → w ≤ℤ s
less_here v w s e h = grind (arith, ints)

less_there : (v w s : ℤ) → int_lt w v ≡ false → w ≤ℤ s → v ≤ℤ s
less_there v w s e h = grind (arith, ints)

lesser_left-by : (v w s : ℤ) (less : Bool) → int_lt w v ≡ less → v ≤ℤ s → IsAtMost (if less then Some w else Some v) s
lesser_left-by v w s false e h = h
lesser_left-by v w s true e h = less_here v w s e h

pub lesser_left : (u t : Option ℤ) (s : ℤ) → IsAtMost u s → IsAtMost (lesser u t) s
lesser_left None t s h = absurd h
lesser_left (Some v) None s h = h
lesser_left (Some v) (Some w) s h = lesser_left-by v w s (int_lt w v) refl h

lesser_right-by : (v w s : ℤ) (less : Bool) → int_lt w v ≡ less → w ≤ℤ s → IsAtMost (if less then Some w else Some v) s
lesser_right-by v w s false e h = less_there v w s e h
lesser_right-by v w s true e h = h

pub lesser_right : (u t : Option ℤ) (s : ℤ) → IsAtMost t s → IsAtMost (lesser u t) s
lesser_right None t s h = h
lesser_right (Some v) None s h = absurd h
lesser_right (Some v) (Some w) s h = lesser_right-by v w s (int_lt w v) refl h

lesser_one-by : (v w s : ℤ) (less : Bool) → (if less then Some w else Some v) ≡ Some s → (Some v ≡ Some s) ⊎ (Some w ≡ Some s)
lesser_one-by v w s false e = inl e
lesser_one-by v w s true e = inr e

pub lesser_one : (u t : Option ℤ) (s : ℤ) → lesser u t ≡ Some s → (u ≡ Some s) ⊎ (t ≡ Some s)
lesser_one None t s e = inr e
lesser_one (Some v) None s e = inl e
lesser_one (Some v) (Some w) s e = lesser_one-by v w s (int_lt w v) e
