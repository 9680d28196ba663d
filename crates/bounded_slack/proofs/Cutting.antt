-- The steps of a search, each from one cut to the next.

use Rattle.std.proofs.Common.{◌≡◌, ℕ, zero, suc, ◌+◌, ◌*◌, ◌^◌, ◌<◌, ◌≤◌, ℤ, pos, ◌+ℤ◌, ◌-ℤ◌, ◌≤ℤ◌, Bool, true, false, ◌==◌, if◌then◌else◌, ◌⊎◌, inl, inr, List, [], ◌∷◌, length, get_or, drop, drop-cons, add-one, IfSome, Option, Some, None, refl, sym, ap, subst, ◌∙◌, arith, true≢false, unsigned_abs, int_lt}
use Rattle.std.proofs.lemmas.Bool.{cases_eq, eqb-true, eq-eqb}
use Rattle.std.proofs.lemmas.Int.{ints}
use Rattle.std.specs.Prelude.{All}
use Rattle.std.proofs.lemmas.List.{drop_all}
use Rattle.std.proofs.lemmas.List.Folds.{list_any_at}
use Rattle.std.proofs.lemmas.Option.{none-some, same_Some}
use Rattle.sta_units.specs.Numbers.{Within}
use Rattle.worst_walks.specs.declared.cones.WalkArc.{WalkArc}
use Rattle.worst_walks.specs.Walks.{delay_in, AreApart}
use Rattle.bounded_slack.specs.declared.reached.Held.{Held}
use Rattle.bounded_slack.specs.Nets.{Net, count_of, end_of, level_of, place_of, arcs_into, offer_of, bound_of, delay_between, sum_to, minus_some, lesser, IsSlack, IsLeastSlack, IsAtMost, IsArcInto, IsShape, IsNet}
use Rattle.bounded_slack.specs.Cuts.{Sums, greater, headroom, behind, end_held, top_of, height_of, room_of, is_shut, AreSame, AreNone, AreBelow, HasRaised, HasPopped, IsPopped, IsThrough, IsReached, IsHeld, IsAhead, IsCut, IsNever, IsStill, IsSearching, IsSpread, IsKnown, IsBehind, RaisedIf, HasFollowed}
use Rattle.bounded_slack.proofs.Keys.{less_from, top_falls}
use Rattle.bounded_slack.proofs.Prefixes.{taken, minus_is, plus_is, backward, shut_out, lesser_left, lesser_right, lesser_one}

-- the greater sum
great-by : (x y : ℤ) (less : Bool) → int_lt x y ≡ less → (x ≤ℤ (if less then y else x)) × (y ≤ℤ (if less then y else x))
great-by x y true e = (grind (arith, ints), grind (arith, ints))
great-by x y false e = (grind (arith, ints), grind (arith, ints))

pub greater_new : (o : Option ℤ) (y : ℤ) → y ≤ℤ greater o y
greater_new None y = omega (arith, ints)
greater_new (Some x) y = (great-by x y (int_lt x y) refl).1

pub greater_old : (o : Option ℤ) (x y : ℤ) → o ≡ Some x → x ≤ℤ greater o y
greater_old None x y e = absurd (none-some x e)
greater_old (Some v) x y e = subst (λ z. z ≤ℤ greater (Some v) y) (same_Some v x e) (great-by v y (int_lt v y) refl).0

greater_one-by : (P : ℤ → Type 0) (x y : ℤ) (less : Bool) → P x → P y → P (if less then y else x)
greater_one-by P x y true p q = q
greater_one-by P x y false p q = p

greater_one : (P : ℤ → Type 0) (o : Option ℤ) (y : ℤ) → ((x : ℤ) → o ≡ Some x → P x) → P y → P (greater o y)
greater_one P None y p q = q
greater_one P (Some x) y p q = greater_one-by P x y (int_lt x y) (p x refl) q

through_more : (net : Net) (n : ℕ) (x y s : ℤ) → IsThrough net n x s → x ≤ℤ y → IsThrough net n y s
through_more net n x y s h le =
    let low : (h.room -ℤ x) ≤ℤ s = h.least in
    record { before = h.before; room = h.room; is = h.is; least = omega (arith, ints) }

-- two nodes by level and number
pub same_or : (l n level node : ℕ) → ((l ≡ level) × (n ≡ node)) ⊎ ((l ≡ level) × (n ≡ node) → ⊥)
same_or l n level node = elim (cases_eq l level) [
  | inl a ↦ elim (cases_eq n node) [ inl b ↦ inl (a, b) | inr b ↦ inr (λ h. b h.1) ]
  | inr a ↦ inr (λ h. a h.0)
]

module _ (net : Net) where
  -- a node that is raised
  pub raised_held : (f g : Sums) (level node : ℕ) (sum : ℤ) → ((l n : ℕ) (x : ℤ) → f l n ≡ Some x → IsReached net l n x) → IsReached net level node sum
      → HasRaised f g level node sum → (l n : ℕ) (x : ℤ) → g l n ≡ Some x → IsReached net l n x
  raised_held f g level node sum held here r l n x e = elim (same_or l n level node) [
    | inl same ↦
        let at : g level node ≡ Some x = subst (λ a. g a node ≡ Some x) same.0 (subst (λ b. g l b ≡ Some x) same.1 e) in
        let is : greater (f level node) sum ≡ x = same_Some (greater (f level node) sum) x (sym r.here ∙ at) in
        subst (λ a. IsReached net a n x) (sym same.0)
        (subst (λ b. IsReached net level b x) (sym same.1)
        (subst (IsReached net level node) is
        (greater_one (IsReached net level node) (f level node) sum (held level node) here)))
    | inr other ↦ held l n x (sym (r.others l n other) ∙ e)
  ]

  raised_ahead : (f g : Sums) (level node : ℕ) (sum s : ℤ) → HasRaised f g level node sum → IsAhead net f s → IsAhead net g s
  raised_ahead f g level node sum s r h = elim (same_or (level_of net h.node) h.node level node) [
    | inl same ↦
        let was : f level node ≡ Some h.best = subst (λ a. f a node ≡ Some h.best) same.0 (subst (λ b. f (level_of net h.node) b ≡ Some h.best) same.1 h.held) in
        let now : g (level_of net h.node) h.node ≡ Some (greater (f level node) sum) =
        subst (λ a. g a h.node ≡ Some (greater (f level node) sum)) (sym same.0) (subst (λ b. g level b ≡ Some (greater (f level node) sum)) (sym same.1) r.here) in
        record {
          node = h.node;
          best = greater (f level node) sum;
          held = now;
          through = through_more net h.node h.best (greater (f level node) sum) s h.through (greater_old (f level node) h.best sum was);
        }
    | inr other ↦ record { node = h.node; best = h.best; held = r.others (level_of net h.node) h.node other ∙ h.held; through = h.through }
  ]

  raised_here : (f g : Sums) (level node : ℕ) (sum s : ℤ) → level ≡ level_of net node → HasRaised f g level node sum → IsThrough net node sum s → IsAhead net g s
  raised_here f g level node sum s its r h = record {
    node = node;
    best = greater (f level node) sum;
    held = subst (λ a. g a node ≡ Some (greater (f level node) sum)) its r.here;
    through = through_more net node sum (greater (f level node) sum) s h (greater_new (f level node) sum);
  }

  -- what waits at a node is ahead when the node is raised
  cut_raised : (f g : Sums) (u : Option ℤ) (level node : ℕ) (sum : ℤ) (waits : ℤ → Type 0) → IsReached net level node sum → HasRaised f g level node sum
      → IsCut net f u (λ s. IsThrough net node sum s ⊎ waits s) → IsCut net g u waits
  cut_raised f g u level node sum waits here r cut = record {
    held = raised_held f g level node sum cut.held here r;
    known = cut.known;
    covers = λ s is. elim (cut.covers s is) [
      | inl most ↦ inl most
      | inr rest ↦ elim rest [
        | inl ahead ↦ inr (inl (raised_ahead f g level node sum s r ahead))
        | inr more ↦ elim more [
          | inl through ↦ inr (inl (raised_here f g level node sum s here.its r through))
          | inr still ↦ inr (inr still)
        ]
      ]
    ];
  }

  same_ahead : (f g : Sums) (s : ℤ) → AreSame f g → IsAhead net f s → IsAhead net g s
  same_ahead f g s same h = record { node = h.node; best = h.best; held = same (level_of net h.node) h.node ∙ h.held; through = h.through }

  -- and nothing better waits at a node that is shut out
  cut_shut : (f g : Sums) (u : Option ℤ) (level node : ℕ) (sum : ℤ) (waits : ℤ → Type 0) → IsNet net → node < count_of net → AreSame f g
      → is_shut u (minus_some (bound_of net node) (Some sum)) ≡ true → IsCut net f u (λ s. IsThrough net node sum s ⊎ waits s) → IsCut net g u waits
  cut_shut f g u level node sum waits good low same shut cut = record {
    held = λ l n x e. cut.held l n x (sym (same l n) ∙ e);
    known = cut.known;
    covers = λ s is. elim (cut.covers s is) [
      | inl most ↦ inl most
      | inr rest ↦ elim rest [
        | inl ahead ↦ inr (inl (same_ahead f g s same ahead))
        | inr more ↦ elim more [
          | inl through ↦ inl (shut_out net u node sum s good low shut through)
          | inr still ↦ inr (inr still)
        ]
      ]
    ];
  }

  -- the start
  known-is : (u : Option ℤ) → IsKnown net u → (s : ℤ) → u ≡ Some s → IsSlack net s
  known-is None k s e = absurd (none-some s e)
  known-is (Some v) k s e = subst (IsSlack net) (same_Some v s e) k

  at_start : (s : ℤ) → (before : List ℕ) × (headroom net (end_of net) before ≡ Some s) → IsThrough net (end_of net) (pos 0) s
  at_start s h = record { before = h.0; room = s; is = h.1; least = omega (arith, ints) }

  pub started : (f g : Sums) (u : Option ℤ) → IsKnown net u → AreNone f → IsHeld net (end_held net)
      → HasRaised f g (level_of net (end_of net)) (end_of net) (pos 0) → IsCut net g u IsNever
  started f g u known none here r =
      cut_raised f g u (level_of net (end_of net)) (end_of net) (pos 0) IsNever here r
      (record {
        held = λ l n x e. absurd (none-some x (sym (none l n) ∙ e));
        known = known-is u known;
        covers = λ s is. inr (inr (inl (at_start s (backward net is.0 s is.1))));
      })

  -- a node is taken
  popped_ahead : (f g : Sums) (level node : ℕ) (sum s : ℤ) → HasPopped f g level node sum → IsAhead net f s → IsAhead net g s ⊎ IsThrough net node sum s
  popped_ahead f g level node sum s p h = elim (same_or (level_of net h.node) h.node level node) [
    | inl same ↦
        let was : f level node ≡ Some h.best = subst (λ a. f a node ≡ Some h.best) same.0 (subst (λ b. f (level_of net h.node) b ≡ Some h.best) same.1 h.held) in
        let is : h.best ≡ sum = same_Some h.best sum (sym was ∙ p.was) in
        inr (subst (λ n. IsThrough net n sum s) same.1 (subst (λ x. IsThrough net h.node x s) is h.through))
    | inr other ↦ inl (record { node = h.node; best = h.best; held = p.others (level_of net h.node) h.node other ∙ h.held; through = h.through })
  ]

  popped_held : (f g : Sums) (level node : ℕ) (sum : ℤ) → HasPopped f g level node sum → ((l n : ℕ) (x : ℤ) → f l n ≡ Some x → IsReached net l n x)
      → (l n : ℕ) (x : ℤ) → g l n ≡ Some x → IsReached net l n x
  popped_held f g level node sum p held l n x e = elim (same_or l n level node) [
    | inl same ↦
        let at : g level node ≡ Some x = subst (λ a. g a node ≡ Some x) same.0 (subst (λ b. g l b ≡ Some x) same.1 e) in
        absurd (none-some x (sym p.gone ∙ at))
    | inr other ↦ held l n x (sym (p.others l n other) ∙ e)
  ]

  none_ahead : (f : Sums) (s : ℤ) → AreNone f → IsAhead net f s → ⊥
  none_ahead f s none h = none-some h.best (sym (none (level_of net h.node) h.node) ∙ h.held)

  pub popped : (f g : Sums) (u : Option ℤ) (next : Option Held) → IsCut net f u IsNever → IsPopped f g next → IsSearching net g u next
  popped f g u None cut p = record {
    cut = record {
      held = λ l n x e. absurd (none-some x (sym (p.1 l n) ∙ e));
      known = cut.known;
      covers = λ s is. elim (cut.covers s is) [
        | inl most ↦ inl most
        | inr rest ↦ elim rest [ inl ahead ↦ absurd (none_ahead f s p.0 ahead) | inr never ↦ absurd never ]
      ];
    };
    front = p.1;
  }
  popped f g u (Some held) cut p = record {
    cut = record {
      held = popped_held f g held.level held.node held.sum p cut.held;
      known = cut.known;
      covers = λ s is. elim (cut.covers s is) [
        | inl most ↦ inl most
        | inr rest ↦ elim rest [ inl ahead ↦ inr (popped_ahead f g held.level held.node held.sum s p ahead) | inr never ↦ absurd never ]
      ];
    };
    front = (cut.held held.level held.node held.sum p.was, p.below);
  }

  -- a node that is shut out by now
  pub settled_shut : (f : Sums) (u : Option ℤ) (held : Held) → IsNet net → is_shut u (room_of net held) ≡ true → IsSearching net f u (Some held) → IsSpread net f u held IsNever
  settled_shut f u held good shut h = record {
    cut = record {
      held = h.cut.held;
      known = h.cut.known;
      covers = λ s is. elim (h.cut.covers s is) [
        | inl most ↦ inl most
        | inr rest ↦ elim rest [
          | inl ahead ↦ inr (inl ahead)
          | inr through ↦ inl (shut_out net u held.node held.sum s good h.front.0.low shut through)
        ]
      ];
    };
    below = h.front.1;
  }

  -- a walk that goes on back from a node goes by one of the arcs into it
  still-by : (arc : WalkArc) (arcs : List WalkArc) (m : ℕ) (d x s : ℤ) (same : Bool) → (arc.from == m) ≡ same → (delay_in arcs m ≡ Some d → IsStill net x arcs s)
      → IsThrough net m (d +ℤ x) s → (if same then Some arc.delay else delay_in arcs m) ≡ Some d → IsStill net x (arc ∷ arcs) s
  still-by arc arcs m d x s true e more h f =
      let at : arc.from ≡ m = eqb-true arc.from m e in
      let is : arc.delay ≡ d = same_Some arc.delay d f in
      inl (subst (λ n. IsThrough net n (arc.delay +ℤ x) s) (sym at) (subst (λ y. IsThrough net m (y +ℤ x) s) (sym is) h))
  still-by arc arcs m d x s false e more h f = inr (more f)

  still : (arcs : List WalkArc) (m : ℕ) (d x s : ℤ) → IsThrough net m (d +ℤ x) s → delay_in arcs m ≡ Some d → IsStill net x arcs s
  still [] m d x s h e = absurd (none-some d e)
  still (arc ∷ arcs) m d x s h e = still-by arc arcs m d x s (arc.from == m) refl (still arcs m d x s h) h e

  -- a walk through a node begins at it, or goes on back
  parted-by : (held : Held) (u : Option ℤ) (before : List ℕ) (room s : ℤ) → headroom net held.node before ≡ Some room → (room -ℤ held.sum) ≤ℤ s
      → IsAtMost (lesser u (minus_some (offer_of net held.node) (Some held.sum))) s ⊎ IsStill net held.sum (arcs_into net held.node) s
  parted-by held u [] room s is le =
      let at : minus_some (offer_of net held.node) (Some held.sum) ≡ Some (room -ℤ held.sum) = minus_is (offer_of net held.node) (Some held.sum) room held.sum is refl in
      inl (lesser_right u (minus_some (offer_of net held.node) (Some held.sum)) s (subst (λ o. IsAtMost o s) (sym at) le))
  parted-by held u (m ∷ ms) room s is le =
      let p = taken (headroom net m ms) (delay_between net m held.node) room is in
      let sum : p.one -ℤ p.other ≡ room = p.is in
      let low : (p.one -ℤ (p.other +ℤ held.sum)) ≤ℤ s = omega (arith, ints) in
      inr (still (arcs_into net held.node) m p.other held.sum s (record { before = ms; room = p.one; is = p.first; least = low }) p.second)

  found-by : (held : Held) (u : Option ℤ) (s : ℤ) → IsHeld net held → ((t : ℤ) → u ≡ Some t → IsSlack net t)
      → (u ≡ Some s) ⊎ (minus_some (offer_of net held.node) (Some held.sum) ≡ Some s) → IsSlack net s
  found-by held u s here known (inl e) = known s e
  found-by held u s here known (inr e) =
      let p = taken (offer_of net held.node) (Some held.sum) s e in
      let at : held.sum ≡ p.other = same_Some held.sum p.other p.second in
      (held.node ∷ here.rest, minus_is (offer_of net held.node) (sum_to net held.node here.rest) p.one p.other p.first (here.adds ∙ ap Some at) ∙ ap Some p.is)

  pub parted : (f : Sums) (u : Option ℤ) (held : Held) → IsSearching net f u (Some held)
      → IsCut net f (lesser u (minus_some (offer_of net held.node) (Some held.sum))) (IsStill net held.sum (arcs_into net held.node))
  parted f u held h = record {
    held = h.cut.held;
    known = λ s e. found-by held u s h.front.0 h.cut.known (lesser_one u (minus_some (offer_of net held.node) (Some held.sum)) s e);
    covers = λ s is. elim (h.cut.covers s is) [
      | inl most ↦ inl (lesser_left u (minus_some (offer_of net held.node) (Some held.sum)) s most)
      | inr rest ↦ elim rest [
        | inl ahead ↦ inr (inl ahead)
        | inr through ↦ elim (parted-by held u through.before through.room s through.is through.least) [ inl most ↦ inl most | inr more ↦ inr (inr more) ]
      ]
    ];
  }

  -- an arc is followed
  follow-by : (f g : Sums) (u : Option ℤ) (held : Held) (arc : WalkArc) (waits : ℤ → Type 0) (shut : Bool) → is_shut u (room_of net (behind net held arc)) ≡ shut
      → IsNet net → IsHeld net (behind net held arc) → RaisedIf shut f g (behind net held arc)
      → IsCut net f u (λ s. IsThrough net arc.from (arc.delay +ℤ held.sum) s ⊎ waits s) → IsCut net g u waits
  follow-by f g u held arc waits true e good here r cut =
      cut_shut f g u (level_of net arc.from) arc.from (arc.delay +ℤ held.sum) waits good here.low r e cut
  follow-by f g u held arc waits false e good here r cut =
      cut_raised f g u (level_of net arc.from) arc.from (arc.delay +ℤ held.sum) waits here r cut

  below-by : (f g : Sums) (level node : ℕ) (next : Held) (shut : Bool) → next.level < level → RaisedIf shut f g next → AreBelow level node f → AreBelow level node g
  below-by f g level node next true low r below = λ l n x e. below l n x (sym (r l n) ∙ e)
  below-by f g level node next false low r below = λ l n x e. elim (same_or l n next.level next.node) [
    | inl same ↦ less_from l n level node (subst (λ a. a < level) (sym same.0) low)
    | inr other ↦ below l n x (sym (r.others l n other) ∙ e)
  ]

  pub followed : (f g : Sums) (u : Option ℤ) (held : Held) (arc : WalkArc) (waits : ℤ → Type 0) → IsNet net → IsHeld net (behind net held arc)
      → level_of net arc.from < held.level → HasFollowed net u held arc f g
      → IsSpread net f u held (λ s. IsThrough net arc.from (arc.delay +ℤ held.sum) s ⊎ waits s) → IsSpread net g u held waits
  followed f g u held arc waits good here low r h = record {
    cut = follow-by f g u held arc waits (is_shut u (room_of net (behind net held arc))) refl good here r h.cut;
    below = below-by f g held.level held.node (behind net held arc) (is_shut u (room_of net (behind net held arc))) low r h.below;
  }

  -- the end
  least-of : (f : Sums) (u : Option ℤ) → AreNone f → IsCut net f u IsNever → (s : ℤ) → IsSlack net s → IsAtMost u s
  least-of f u none cut s is = elim (cut.covers s is) [
    | inl most ↦ most
    | inr rest ↦ elim rest [ inl ahead ↦ absurd (none_ahead f s none ahead) | inr never ↦ absurd never ]
  ]

  finished-by : (f : Sums) (u : Option ℤ) → AreNone f → IsCut net f u IsNever → IsLeastSlack net u
  finished-by f None none cut = λ s is. least-of f None none cut s is
  finished-by f (Some v) none cut = (cut.known v refl, λ s is. least-of f (Some v) none cut s is)

  pub finished : (f : Sums) (u : Option ℤ) → IsSearching net f u None → IsLeastSlack net u
  finished f u h = finished-by f u h.front h.cut

-- nodes before arcs
range-by : (net : Net) (n m : ℕ) (x d : ℤ) → unsigned_abs x + 10 ^ 12 * place_of net n ≤ 10 ^ 12 * place_of net (end_of net) → place_of net m < place_of net n → Within d
    → unsigned_abs (d +ℤ x) + 10 ^ 12 * place_of net m ≤ 10 ^ 12 * place_of net (end_of net)
range-by net n m x d range low within = omega (arith, ints)

pub behind_held : (net : Net) (held : Held) (arc : WalkArc) → IsHeld net held → IsArcInto net held.node arc
    → delay_in (arcs_into net held.node) arc.from ≡ Some arc.delay → IsHeld net (behind net held arc)
behind_held net held arc here into there = record {
  low = into.0;
  its = refl;
  rest = held.node ∷ here.rest;
  adds = plus_is (delay_between net arc.from held.node) (sum_to net held.node here.rest) arc.delay held.sum there here.adds;
  range = range-by net held.node arc.from held.sum arc.delay here.range into.2 into.3;
}

end-sum : (net : Net) → sum_to net (end_of net) [] ≡ Some (pos 0)
end-sum net = rw (eq-eqb (end_of net) (end_of net) refl) refl

pub end_fine : (net : Net) → IsShape net → IsHeld net (end_held net)
end_fine net shape = record {
  low = shape.end;
  its = refl;
  rest = [];
  adds = end-sum net;
  range = omega (arith, ints);
}

-- the arcs of a list are those that are found
delay_apart-by : (arc other : WalkArc) (arcs : List WalkArc) (same : Bool) → (arc.from == other.from) ≡ same
    → (arc.from ≡ other.from → ⊥) → delay_in arcs other.from ≡ Some other.delay → (if same then Some arc.delay else delay_in arcs other.from) ≡ Some other.delay
delay_apart-by arc other arcs true e apart more = absurd (apart (eqb-true arc.from other.from e))
delay_apart-by arc other arcs false e apart more = more

pub delay_listed : (arcs : List WalkArc) (i : ℕ) (d : WalkArc) → AreApart arcs → i < length arcs
    → delay_in arcs (get_or arcs i d).from ≡ Some (get_or arcs i d).delay
delay_listed [] i d apart low = absurd (omega arith)
delay_listed (arc ∷ arcs) zero d apart low = rw (eq-eqb arc.from arc.from refl) refl
delay_listed (arc ∷ arcs) (suc i) d apart low =
    delay_apart-by arc (get_or arcs i d) arcs (arc.from == (get_or arcs i d).from) refl
    (λ e. true≢false (sym (list_any_at (λ (other : WalkArc). other.from == arc.from) arcs i d (omega arith) (eq-eqb (get_or arcs i d).from arc.from (sym e))) ∙ apart.0))
    (delay_listed arcs i d apart.1 (omega arith))

pub low_sum : (net : Net) (held : Held) → IsShape net → IsHeld net held → unsigned_abs held.sum ≤ 2 ^ 22 * 10 ^ 12
low_sum net held shape here =
    let range = here.range in
    let high = shape.high in
    omega arith

-- the node of least room before an arc
pub behind_some : (net : Net) (held : Held) (o : Option Held) → IsBehind net held o → IfSome o (IsHeld net)
behind_some net held None h = tt
behind_some net held (Some next) h = h.0

pub nearer_behind : (net : Net) (held : Held) (o : Option Held) (next found : Held) → IsBehind net held o → IsHeld net next → next.level < held.level
    → (o ≡ Some found) ⊎ (found ≡ next) → IsBehind net held (Some found)
nearer_behind net held o next found h here low (inl e) = subst (IsBehind net held) e h
nearer_behind net held o next found h here low (inr e) = subst (λ (x : Held). IsHeld net x × (x.level < held.level)) (sym e) (here, low)

-- the next node that is taken is a lower one
pub next_falls : (net : Net) (f g : Sums) (u : Option ℤ) (held : Held) (next : Option Held) → IsShape net → IsSpread net f u held IsNever → IsPopped f g next
    → top_of next < top_of (Some held)
next_falls net f g u held None shape h p = omega arith
next_falls net f g u held (Some next) shape h p =
    let low = (h.cut.held next.level next.node next.sum p.was).low in
    let few = shape.few in
    top_falls next held (omega arith) (h.below next.level next.node next.sum p.was)

-- the arcs into a node, one by one
pub item_into : (net : Net) (n i : ℕ) (d : WalkArc) (items : List WalkArc) → IsShape net → n < count_of net → items ≡ arcs_into net n → i < length items
    → IsArcInto net n (get_or items i d)
item_into net n i d items shape low e under = subst (λ xs. All (IsArcInto net n) xs) (sym e) (shape.arcs n low) i d under

pub item_there : (net : Net) (n i : ℕ) (d : WalkArc) (items : List WalkArc) → IsShape net → n < count_of net → items ≡ arcs_into net n → i < length items
    → delay_in (arcs_into net n) (get_or items i d).from ≡ Some (get_or items i d).delay
item_there net n i d items shape low e under =
    subst (λ xs. delay_in xs (get_or items i d).from ≡ Some (get_or items i d).delay) e
    (delay_listed items i d (subst AreApart (sym e) (shape.apart n low)) under)

-- the arcs that are followed, and those that are left
pub spread_start : (net : Net) (f : Sums) (u : Option ℤ) (held : Held) (items : List WalkArc) → items ≡ arcs_into net held.node
    → IsSpread net f u held (IsStill net held.sum (arcs_into net held.node)) → IsSpread net f u held (IsStill net held.sum items)
spread_start net f u held items e h = subst (λ xs. IsSpread net f u held (IsStill net held.sum xs)) (sym e) h

pub spread_step : (net : Net) (f g : Sums) (u : Option ℤ) (held : Held) (items : List WalkArc) (i : ℕ) (d : WalkArc) → i < length items
    → items ≡ arcs_into net held.node → IsNet net → IsHeld net held → HasFollowed net u held (get_or items i d) f g
    → IsSpread net f u held (IsStill net held.sum (drop i items)) → IsSpread net g u held (IsStill net held.sum (drop (i + 1) items))
spread_step net f g u held items i d low e good here r h =
    let into = item_into net held.node i d items good.shape here.low e low in
    let there = item_there net held.node i d items good.shape here.low e low in
    let parts : drop i items ≡ get_or items i d ∷ drop (i + 1) items =
    subst (λ k. drop i items ≡ get_or items i d ∷ drop k items) (sym (add-one i)) (drop-cons items i d low) in
    followed net f g u held (get_or items i d) (IsStill net held.sum (drop (i + 1) items)) good
    (behind_held net held (get_or items i d) here into there) (subst (λ l. level_of net (get_or items i d).from < l) (sym here.its) into.1) r
    (subst (λ xs. IsSpread net f u held (IsStill net held.sum xs)) parts h)

pub spread_end : (net : Net) (f : Sums) (u : Option ℤ) (held : Held) (items : List WalkArc) (i : ℕ) → length items ≤ i
    → IsSpread net f u held (IsStill net held.sum (drop i items)) → IsSpread net f u held IsNever
spread_end net f u held items i past h = subst (λ xs. IsSpread net f u held (IsStill net held.sum xs)) (drop_all i items past) h

-- a node that is taken, with the lesser slack
pub spread_found : (net : Net) (f : Sums) (u found : Option ℤ) (held : Held) → found ≡ lesser u (minus_some (offer_of net held.node) (Some held.sum))
    → IsSearching net f u (Some held) → IsSpread net f found held (IsStill net held.sum (arcs_into net held.node))
spread_found net f u found held e h =
    subst (λ o. IsSpread net f o held (IsStill net held.sum (arcs_into net held.node))) (sym e) (record { cut = parted net f u held h; below = h.front.1 })

-- the node before an arc is held, and lies lower
pub behind_at : (net : Net) (held next : Held) (i : ℕ) (d : WalkArc) (items : List WalkArc) → IsShape net → IsHeld net held → items ≡ arcs_into net held.node → i < length items
    → next ≡ behind net held (get_or items i d) → next.level < held.level
behind_at net held next i d items shape here e under is =
    let into = item_into net held.node i d items shape here.low e under in
    subst (λ (x : Held). x.level < held.level) (sym is) (subst (λ l. level_of net (get_or items i d).from < l) (sym here.its) into.1)

-- the slack of the walk that is followed back
pub known_at : (net : Net) (held : Held) (slack : Option ℤ) → IsHeld net held → slack ≡ minus_some (offer_of net held.node) (Some held.sum) → IsKnown net slack
known_at net held None here e = tt
known_at net held (Some s) here e = found-by net held None s here (λ t f. absurd (none-some t f)) (inr (sym e))

-- whether an arc is shut out
pub shut_is : (net : Net) (u : Option ℤ) (held : Held) (room : Option ℤ) (shut told : Bool) → room ≡ room_of net held → shut ≡ is_shut u room → shut ≡ told
    → is_shut u (room_of net held) ≡ told
shut_is net u held room shut told e f t = sym (f ∙ ap (is_shut u) e) ∙ t

pub followed_shut : (net : Net) (u : Option ℤ) (held next : Held) (arc : WalkArc) (f : Sums) → next ≡ behind net held arc → is_shut u (room_of net next) ≡ true
    → HasFollowed net u held arc f f
followed_shut net u held next arc f is shut =
    let at : is_shut u (room_of net (behind net held arc)) ≡ true = subst (λ (h : Held). is_shut u (room_of net h) ≡ true) is shut in
    subst (λ b. RaisedIf b f f (behind net held arc)) (sym at) (λ l n. refl)

pub followed_raised : (net : Net) (u : Option ℤ) (held next : Held) (arc : WalkArc) (f g : Sums) → next ≡ behind net held arc → is_shut u (room_of net next) ≡ false
    → HasRaised f g next.level next.node next.sum → HasFollowed net u held arc f g
followed_raised net u held next arc f g is off r =
    let at : is_shut u (room_of net (behind net held arc)) ≡ false = subst (λ (h : Held). is_shut u (room_of net h) ≡ false) is off in
    subst (λ b. RaisedIf b f g (behind net held arc)) (sym at) (subst (λ (h : Held). HasRaised f g h.level h.node h.sum) is r)

pub height_falls : (net : Net) (held : Held) (o : Option Held) → IsBehind net held o → height_of o < height_of (Some held)
height_falls net held None h = omega arith
height_falls net held (Some next) h = let low = h.1 in omega arith
