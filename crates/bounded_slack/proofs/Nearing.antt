-- The steps of a search for the nodes of near walks, and that it finds them.

use Rattle.std.proofs.Common.{◌≡◌, ℕ, zero, suc, ◌+◌, ◌*◌, ◌^◌, ◌<◌, ◌≤◌, ℤ, pos, ◌+ℤ◌, ◌-ℤ◌, ◌≤ℤ◌, int_lt, Bool, true, false, ◌==◌, if◌then◌else◌, ◌⊎◌, inl, inr, List, [], ◌∷◌, ◌++◌, map, length, get_or, Option, Some, None, refl, sym, ap, subst, ◌∙◌, arith, true≢false}
use Rattle.std.specs.Prelude.{All, Contains}
use Rattle.std.proofs.lemmas.Bool.{cases_eq, eqb-true}
use Rattle.std.proofs.lemmas.Int.{ints}
use Rattle.std.proofs.lemmas.List.{map-append}
use Rattle.std.proofs.lemmas.List.Elements.{All-cons, All-nil, Contains-append_cases, Contains-append_left, Contains-append_right}
use Rattle.std.proofs.lemmas.Option.{none-some, same_Some}
use Rattle.timing_defs.proofs.Members.{first_in, none_in, in_cases, in_map}
use Rattle.worst_walks.specs.declared.cones.WalkArc.{WalkArc}
use Rattle.worst_walks.specs.Walks.{delay_in}
use Rattle.bounded_slack.specs.declared.reached.Held.{Held}
use Rattle.bounded_slack.specs.Nets.{Net, count_of, end_of, level_of, arcs_into, offer_of, bound_of, delay_between, sum_to, minus_some, walk_slack, IsAtMost, IsArcInto, IsShape, IsNet}
use Rattle.bounded_slack.specs.Cuts.{Sums, greater, headroom, behind, end_held, top_of, room_of, AreBelow, AreNone, AreSame, HasRaised, HasPopped, IsFront, IsHeld, IsPopped, IsReached, RaisedIf}
use Rattle.bounded_slack.specs.Nears.{is_past, node_of, AreNear, HasNeared, HasSpread, IsArcMet, IsMet, IsNearing, IsNearSearch, IsNearSpread, IsNextTaken, IsNowhere, IsShut, IsTaken, IsWaiting, Taken}
use Rattle.bounded_slack.proofs.Keys.{less_from, top_falls}
use Rattle.bounded_slack.proofs.Cutting.{greater_new, greater_old, raised_held, same_or}
use Rattle.bounded_slack.proofs.Prefixes.{added, arc_into, arc_there, minus_is, room_bound, taken as parted}

longer : (a b c : ℤ) → a ≤ℤ b → b ≤ℤ c → a ≤ℤ c
longer a b c p q = omega (arith, ints)

module _ (net : Net) (most : ℤ) where
  -- a node that waits waits still where another is raised
  waits_more : (f g : Sums) (level node : ℕ) (sum : ℤ) → HasRaised f g level node sum → (n : ℕ) (y : ℤ) → IsWaiting net f n y → IsWaiting net g n y
  waits_more f g level node sum r n y (x, at, low) = elim (same_or (level_of net n) n level node) [
    | inl same ↦
        let was : f level node ≡ Some x = subst (λ a. f a node ≡ Some x) same.0 (subst (λ b. f (level_of net n) b ≡ Some x) same.1 at) in
        let now : g (level_of net n) n ≡ Some (greater (f level node) sum) =
        subst (λ a. g a n ≡ Some (greater (f level node) sum)) (sym same.0) (subst (λ b. g level b ≡ Some (greater (f level node) sum)) (sym same.1) r.here) in
        (greater (f level node) sum, now, longer y x (greater (f level node) sum) low (greater_old (f level node) x sum was))
    | inr other ↦ (x, r.others (level_of net n) n other ∙ at, low)
  ]

  waits_now : (f g : Sums) (level node : ℕ) (sum : ℤ) → level ≡ level_of net node → HasRaised f g level node sum → IsWaiting net g node sum
  waits_now f g level node sum its r =
      (greater (f level node) sum, subst (λ a. g a node ≡ Some (greater (f level node) sum)) its r.here, greater_new (f level node) sum)

  met_more : (f g : Sums) (pairs more : Taken) (first_way way : ℕ → ℤ → Type 0) (n : ℕ) (y : ℤ) → ((p : ℕ × ℤ) → Contains pairs p → Contains more p)
      → (IsWaiting net f n y → IsMet net most g more way n y) → (first_way n y → IsMet net most g more way n y) → IsMet net most f pairs first_way n y → IsMet net most g more way n y
  met_more f g pairs more first_way way n y kept waits rest (inl (x, c, low)) = inl (x, kept (n, x) c, low)
  met_more f g pairs more first_way way n y kept waits rest (inr (inl w)) = waits w
  met_more f g pairs more first_way way n y kept waits rest (inr (inr (inl s))) = inr (inr (inl s))
  met_more f g pairs more first_way way n y kept waits rest (inr (inr (inr e))) = rest e

  -- the arcs that are followed
  module _ (held : Held) (arcs : List WalkArc) where
    pub spread_none : (f : Sums) → HasSpread net most f f held arcs 0
    spread_none f = record {
      reached = λ h. h;
      more = λ n y w. w;
      each = λ k e low. absurd (omega (arith, low));
      below = λ b. b;
    }

    -- all arcs are followed
    pub all_followed : (f g : Sums) (i : ℕ) → length arcs ≤ i → HasSpread net most f g held arcs i → HasSpread net most f g held arcs (length arcs)
    all_followed f g i past h = record {
      reached = h.reached;
      more = h.more;
      each = λ k e low in_list. h.each k e (omega (arith, past, in_list)) in_list;
      below = h.below;
    }

    near_held-by : (f g : Sums) (next : Held) (past : Bool) → IsHeld net next → RaisedIf past f g next
        → ((l n : ℕ) (x : ℤ) → f l n ≡ Some x → IsReached net l n x) → (l n : ℕ) (x : ℤ) → g l n ≡ Some x → IsReached net l n x
    near_held-by f g next true here r h = λ l n x e. h l n x (sym (r l n) ∙ e)
    near_held-by f g next false here r h = raised_held net f g next.level next.node next.sum h here r

    near_more-by : (f g : Sums) (next : Held) (past : Bool) → RaisedIf past f g next → (n : ℕ) (y : ℤ) → IsWaiting net f n y → IsWaiting net g n y
    near_more-by f g next true r = λ n y w. (w.0, r (level_of net n) n ∙ w.1, w.2)
    near_more-by f g next false r = waits_more f g next.level next.node next.sum r

    near_below-by : (f g : Sums) (next : Held) (past : Bool) → next.level < held.level → RaisedIf past f g next → AreBelow held.level held.node f → AreBelow held.level held.node g
    near_below-by f g next true low r below = λ l n x e. below l n x (sym (r l n) ∙ e)
    near_below-by f g next false low r below = λ l n x e. elim (same_or l n next.level next.node) [
      | inl same ↦ less_from l n held.level held.node (subst (λ a. a < held.level) (sym same.0) low)
      | inr other ↦ below l n x (sym (r.others l n other) ∙ e)
    ]

    near_met-by : (f g : Sums) (arc : WalkArc) (past : Bool) → is_past most (room_of net (behind net held arc)) ≡ past → RaisedIf past f g (behind net held arc)
        → IsArcMet net most g held.sum arc.from arc.delay
    near_met-by f g arc true e r = inr e
    near_met-by f g arc false e r = inl (waits_now f g (level_of net arc.from) arc.from (arc.delay +ℤ held.sum) refl r)

    met_still : (f g : Sums) (m : ℕ) (d : ℤ) → ((n : ℕ) (y : ℤ) → IsWaiting net f n y → IsWaiting net g n y) → IsArcMet net most f held.sum m d → IsArcMet net most g held.sum m d
    met_still f g m d more (inl w) = inl (more m (d +ℤ held.sum) w)
    met_still f g m d more (inr s) = inr s

    pub spread_more : (first f g : Sums) (i : ℕ) (d : WalkArc) → i < length arcs → IsHeld net (behind net held (get_or arcs i d)) → level_of net (get_or arcs i d).from < held.level
        → HasNeared net most held (get_or arcs i d) f g → HasSpread net most first f held arcs i → HasSpread net most first g held arcs (i + 1)
    spread_more first f g i d under here low r h =
        let past = is_past most (room_of net (behind net held (get_or arcs i d))) in
        let more = near_more-by f g (behind net held (get_or arcs i d)) past r in
        record {
          reached = λ was. near_held-by f g (behind net held (get_or arcs i d)) past here r (h.reached was);
          more = λ n y w. more n y (h.more n y w);
          each = λ k e before in_list. elim (cases_eq k i) [
            | inl same ↦
                subst (λ j. IsArcMet net most g held.sum (get_or arcs j e).from (get_or arcs j e).delay) (sym same)
                (subst (λ (a : WalkArc). IsArcMet net most g held.sum a.from a.delay) (any_default arcs i d e under)
                (near_met-by f g (get_or arcs i d) past refl r))
            | inr other ↦ met_still f g (get_or arcs k e).from (get_or arcs k e).delay more (h.each k e (omega (arith, before, other)) in_list)
          ];
          below = λ was. near_below-by f g (behind net held (get_or arcs i d)) past low r (h.below was);
        }
      where
        any_default : (xs : List WalkArc) (k : ℕ) (a b : WalkArc) → k < length xs → get_or xs k a ≡ get_or xs k b
        any_default [] k a b low = absurd (omega (arith, low))
        any_default (x ∷ xs) zero a b low = refl
        any_default (x ∷ xs) (suc k) a b low = any_default xs k a b (omega (arith, low))

  -- the start
  pub near_started : (f g : Sums) → AreNone f → IsHeld net (end_held net) → HasRaised f g (level_of net (end_of net)) (end_of net) (pos 0) → IsNearing net most g [] IsNowhere
  near_started f g none here r = record {
    pairs = [];
    listed = refl;
    low = λ n x c. absurd (none_in (n, x) c);
    held = raised_held net f g (level_of net (end_of net)) (end_of net) (pos 0) (λ l n x e. absurd (none-some x (sym (none l n) ∙ e))) here r;
    end = inr (inl (waits_now f g (level_of net (end_of net)) (end_of net) (pos 0) refl r));
    arcs = λ n m x d c e. absurd (none_in (n, x) c);
  }

  -- a node is taken out
  popped_met : (f g : Sums) (next : Option Held) (pairs : Taken) → IsPopped f g next → (n : ℕ) (y : ℤ) → IsMet net most f pairs IsNowhere n y → IsMet net most g pairs (IsNextTaken next) n y
  popped_met f g None pairs p n y met =
      met_more f g pairs pairs IsNowhere (IsNextTaken None) n y (λ q c. c) (λ w. absurd (none-some w.0 (sym (p.0 (level_of net n) n) ∙ w.1))) (λ e. absurd e) met
  popped_met f g (Some held) pairs p n y met =
      met_more f g pairs pairs IsNowhere (IsNextTaken (Some held)) n y (λ q c. c) waits (λ e. absurd e) met
    where
      waits : IsWaiting net f n y → IsMet net most g pairs (IsNextTaken (Some held)) n y
      waits (x, at, low) = elim (same_or (level_of net n) n held.level held.node) [
        | inl same ↦
            let was : f held.level held.node ≡ Some x = subst (λ a. f a held.node ≡ Some x) same.0 (subst (λ b. f (level_of net n) b ≡ Some x) same.1 at) in
            let is : x ≡ held.sum = same_Some x held.sum (sym was ∙ p.was) in
            inr (inr (inr (same.1, subst (λ z. y ≤ℤ z) is low)))
        | inr other ↦ inr (inl (x, p.others (level_of net n) n other ∙ at, low))
      ]

  popped_held : (f g : Sums) (next : Option Held) → IsPopped f g next → ((l n : ℕ) (x : ℤ) → f l n ≡ Some x → IsReached net l n x) → (l n : ℕ) (x : ℤ) → g l n ≡ Some x → IsReached net l n x
  popped_held f g None p held l n x e = absurd (none-some x (sym (p.1 l n) ∙ e))
  popped_held f g (Some h) p held l n x e = elim (same_or l n h.level h.node) [
    | inl same ↦
        let at : g h.level h.node ≡ Some x = subst (λ a. g a h.node ≡ Some x) same.0 (subst (λ b. g l b ≡ Some x) same.1 e) in
        absurd (none-some x (sym p.gone ∙ at))
    | inr other ↦ held l n x (sym (p.others l n other) ∙ e)
  ]

  popped_front : (f g : Sums) (next : Option Held) → IsPopped f g next → ((l n : ℕ) (x : ℤ) → f l n ≡ Some x → IsReached net l n x) → IsFront net g next
  popped_front f g None p held = p.1
  popped_front f g (Some h) p held = (held h.level h.node h.sum p.was, p.below)

  pub near_popped : (f g : Sums) (nodes : List ℕ) (next : Option Held) → IsNearing net most f nodes IsNowhere → IsPopped f g next → IsNearSearch net most g nodes next
  near_popped f g nodes next h p = record {
    nearing = record {
      pairs = h.pairs;
      listed = h.listed;
      low = h.low;
      held = popped_held f g next p h.held;
      end = popped_met f g next h.pairs p (end_of net) (pos 0) h.end;
      arcs = λ n m x d c e. popped_met f g next h.pairs p m (d +ℤ x) (h.arcs n m x d c e);
    };
    front = popped_front f g next p h.held;
  }

  -- a node has been taken and its arcs are followed
  pub near_taken : (f g : Sums) (nodes all : List ℕ) (held : Held) (arcs : List WalkArc) → IsNearSearch net most f nodes (Some held) → arcs ≡ arcs_into net held.node
      → HasSpread net most f g held arcs (length arcs) → all ≡ nodes ++ held.node ∷ [] → IsNearSpread net most g all held
  near_taken f g nodes all held arcs h its s e = record {
    nearing = record {
      pairs = h.nearing.pairs ++ (held.node, held.sum) ∷ [];
      listed = e ∙ ap (λ (xs : List ℕ). xs ++ held.node ∷ []) h.nearing.listed ∙ sym (map-append node_of h.nearing.pairs ((held.node, held.sum) ∷ []));
      low = λ n x c. elim (Contains-append_cases h.nearing.pairs ((held.node, held.sum) ∷ []) (n, x) c) [
        | inl old ↦ h.nearing.low n x old
        | inr new ↦ subst (λ (p : ℕ × ℤ). p.0 < count_of net) (one_in new) h.front.0.low
      ];
      held = s.reached h.nearing.held;
      end = met (end_of net) (pos 0) h.nearing.end;
      arcs = λ n m x d c f2. elim (Contains-append_cases h.nearing.pairs ((held.node, held.sum) ∷ []) (n, x) c) [
        | inl old ↦ met m (d +ℤ x) (h.nearing.arcs n m x d old f2)
        | inr new ↦ arc_met n m x d (one_in new) f2
      ];
    };
    below = s.below h.front.1;
  }
    where
      one_in : {p : ℕ × ℤ} → Contains ((held.node, held.sum) ∷ []) p → ◌≡◌ {A = ℕ × ℤ} (held.node, held.sum) p
      one_in {p} c = elim (in_cases (held.node, held.sum) [] p c) [ inl same ↦ same | inr none ↦ absurd (none_in p none) ]

      met : (n : ℕ) (y : ℤ) → IsMet net most f h.nearing.pairs (IsNextTaken (Some held)) n y → IsMet net most g (h.nearing.pairs ++ (held.node, held.sum) ∷ []) IsNowhere n y
      met n y m =
          met_more f g h.nearing.pairs (h.nearing.pairs ++ (held.node, held.sum) ∷ []) (IsNextTaken (Some held)) IsNowhere n y
          (λ p c. Contains-append_left h.nearing.pairs ((held.node, held.sum) ∷ []) p c) (λ w. inr (inl (s.more n y w)))
          (λ t. inl (held.sum, subst (λ k. Contains (h.nearing.pairs ++ (held.node, held.sum) ∷ []) (k, held.sum)) (sym t.0) last, t.1)) m
        where
          last : Contains (h.nearing.pairs ++ (held.node, held.sum) ∷ []) (held.node, held.sum)
          last = Contains-append_right h.nearing.pairs ((held.node, held.sum) ∷ []) (held.node, held.sum) (first_in (held.node, held.sum) [])

      widen : (m : ℕ) (y : ℤ) → IsWaiting net g m y ⊎ IsShut net most m y → IsMet net most g (h.nearing.pairs ++ (held.node, held.sum) ∷ []) IsNowhere m y
      widen m y (inl w) = inr (inl w)
      widen m y (inr t) = inr (inr (inl t))

      arc_met : (n m : ℕ) (x d : ℤ) → ◌≡◌ {A = ℕ × ℤ} (held.node, held.sum) (n, x) → delay_between net m n ≡ Some d
          → IsMet net most g (h.nearing.pairs ++ (held.node, held.sum) ∷ []) IsNowhere m (d +ℤ x)
      arc_met n m x d same f2 =
          let node : held.node ≡ n = ap (λ (p : ℕ × ℤ). p.0) same in
          let sum : held.sum ≡ x = ap (λ (p : ℕ × ℤ). p.1) same in
          let listed : delay_in arcs m ≡ Some d = ap (λ (xs : List WalkArc). delay_in xs m) its ∙ subst (λ k. delay_in (arcs_into net k) m ≡ Some d) (sym node) f2 in
          subst (λ z. IsMet net most g (h.nearing.pairs ++ (held.node, held.sum) ∷ []) IsNowhere m (d +ℤ z)) sum
          (widen m (d +ℤ held.sum) (arc_there (λ k v. IsArcMet net most g held.sum k v) arcs m d (λ k a low. s.each k a low low) listed))

  -- the end: each walk of at most the slack has been taken
  module _ (good : IsNet net) (f : Sums) (nodes : List ℕ) (h : IsNearSearch net most f nodes None) where
    not_past : (n : ℕ) (room y : ℤ) → IsAtMost (bound_of net n) room → (room -ℤ y) ≤ℤ most → IsShut net most n y → ⊥
    not_past n room y low le past = by (bound_of net n) low past
      where
        by : (o : Option ℤ) → IsAtMost o room → is_past most (minus_some o (Some y)) ≡ true → ⊥
        by None l p = l
        by (Some b) l p = let under : b ≤ℤ room = l in grind (arith, ints)

    taken_if : (n : ℕ) (before : List ℕ) (room y : ℤ) → n < count_of net → headroom net n before ≡ Some room → (room -ℤ y) ≤ℤ most
        → IsMet net most f h.nearing.pairs (IsNextTaken None) n y → IsTaken h.nearing.pairs n y
    taken_if n before room y low is le (inl t) = t
    taken_if n before room y low is le (inr (inl w)) = absurd (none-some w.0 (sym (h.front (level_of net n) n) ∙ w.1))
    taken_if n before room y low is le (inr (inr (inl s))) = absurd (not_past n room y (room_bound net good n before room low is) le s)
    taken_if n before room y low is le (inr (inr (inr e))) = absurd e

    listed_in : (n : ℕ) (x : ℤ) → Contains h.nearing.pairs (n, x) → Contains nodes n
    listed_in n x c = subst (λ (xs : List ℕ). Contains xs n) (sym h.nearing.listed) (in_map node_of h.nearing.pairs (n, x) c)

    record IsWalked (n : ℕ) (ns : List ℕ) (x : ℤ) : Type 0 where
      there : All (λ k. Contains nodes k) (n ∷ ns)
      its : IsTaken h.nearing.pairs n x

    at_end : (n : ℕ) (before : List ℕ) (room x : ℤ) (same : Bool) → (n == end_of net) ≡ same → headroom net n before ≡ Some room → (room -ℤ x) ≤ℤ most
        → (if same then Some (pos 0) else None) ≡ Some x → IsWalked n [] x
    at_end n before room x false e is le sum = absurd (none-some x sum)
    at_end n before room x true e is le sum =
        let here : n ≡ end_of net = eqb-true n (end_of net) e in
        let nothing : pos 0 ≡ x = same_Some (pos 0) x sum in
        let low : n < count_of net = subst (λ k. k < count_of net) (sym here) good.shape.end in
        let met : IsMet net most f h.nearing.pairs (IsNextTaken None) n x =
        subst (λ k. IsMet net most f h.nearing.pairs (IsNextTaken None) k x) (sym here)
        (subst (λ y. IsMet net most f h.nearing.pairs (IsNextTaken None) (end_of net) y) nothing h.nearing.end) in
        let t = taken_if n before room x low is le met in
        record { there = All-cons (λ k. Contains nodes k) n [] (listed_in n t.0 t.1) (All-nil (λ k. Contains nodes k)); its = t }

    walked : (n : ℕ) (ns before : List ℕ) (room x : ℤ) → headroom net n before ≡ Some room → (room -ℤ x) ≤ℤ most → sum_to net n ns ≡ Some x → IsWalked n ns x
    walked n [] before room x is le sum = at_end n before room x (n == end_of net) refl is le sum
    walked n (m ∷ ms) before room x is le sum =
        let p = added (delay_between net n m) (sum_to net m ms) x sum in
        let here : headroom net m (n ∷ before) ≡ Some (room -ℤ p.one) = minus_is (headroom net n before) (delay_between net n m) room p.one is p.first in
        let parts = p.is in
        let w = walked m ms (n ∷ before) (room -ℤ p.one) p.other here (omega (arith, ints, le, parts)) p.second in
        let t = w.its in
        let into = arc_into net good.shape m n p.one (h.nearing.low m t.0 t.1) p.first in
        let high : (p.other ≤ℤ t.0) = t.2 in
        let own = taken_if n before room (p.one +ℤ t.0) into.0 is (omega (arith, ints, le, parts, high)) (h.nearing.arcs m n t.0 p.one t.1 p.first) in
        let top = own.2 in
        record {
          there = All-cons (λ k. Contains nodes k) n (m ∷ ms) (listed_in n own.0 own.1) w.there;
          its = (own.0, own.1, omega (arith, ints, parts, high, top));
        }

    covered : (ns : List ℕ) (s : ℤ) → walk_slack net ns ≡ Some s → s ≤ℤ most → All (λ k. Contains nodes k) ns
    covered [] s e le = All-nil (λ k. Contains nodes k)
    covered (n ∷ ns) s e le =
        let p = parted (offer_of net n) (sum_to net n ns) s e in
        let is = p.is in
        (walked n ns [] p.one p.other p.first (omega (arith, ints, is, le)) p.second).there

    pub near_found : AreNear net most nodes
    near_found = record {
      below = subst (All (λ n. n < count_of net)) (sym h.nearing.listed) (all_low h.nearing.pairs h.nearing.low);
      covers = covered;
    }
      where
        all_low : (pairs : Taken) → ((n : ℕ) (x : ℤ) → Contains pairs (n, x) → n < count_of net) → All (λ n. n < count_of net) (map node_of pairs)
        all_low [] low = All-nil (λ n. n < count_of net)
        all_low (p ∷ ps) low =
            All-cons (λ n. n < count_of net) p.0 (map node_of ps) (low p.0 p.1 (first_in p ps)) (all_low ps (λ n x c. low n x (let l = c.1 in (suc c.0, omega (arith, l), c.2))))

-- the next node that is taken is a lower one
pub near_falls : (net : Net) (most : ℤ) (f g : Sums) (nodes : List ℕ) (held : Held) (next : Option Held) → IsShape net → IsNearSpread net most f nodes held → IsPopped f g next
    → top_of next < top_of (Some held)
near_falls net most f g nodes held None shape h p = omega arith
near_falls net most f g nodes held (Some next) shape h p =
    let low = (h.nearing.held next.level next.node next.sum p.was).low in
    let few = shape.few in
    top_falls next held (omega arith) (h.below next.level next.node next.sum p.was)

-- whether an arc is left out
pub past_is : (net : Net) (most : ℤ) (held : Held) (room : Option ℤ) (past told : Bool) → room ≡ room_of net held → past ≡ is_past most room → past ≡ told → is_past most (room_of net held) ≡ told
past_is net most held room past told e f t = sym (f ∙ ap (is_past most) e) ∙ t

pub neared_past : (net : Net) (most : ℤ) (held next : Held) (arc : WalkArc) (f : Sums) → next ≡ behind net held arc → is_past most (room_of net next) ≡ true → HasNeared net most held arc f f
neared_past net most held next arc f is past =
    let at : is_past most (room_of net (behind net held arc)) ≡ true = subst (λ (h : Held). is_past most (room_of net h) ≡ true) is past in
    subst (λ b. RaisedIf b f f (behind net held arc)) (sym at) (λ l n. refl)

pub neared_raised : (net : Net) (most : ℤ) (held next : Held) (arc : WalkArc) (f g : Sums) → next ≡ behind net held arc → is_past most (room_of net next) ≡ false
    → HasRaised f g next.level next.node next.sum → HasNeared net most held arc f g
neared_raised net most held next arc f g is off r =
    let at : is_past most (room_of net (behind net held arc)) ≡ false = subst (λ (h : Held). is_past most (room_of net h) ≡ false) is off in
    subst (λ b. RaisedIf b f g (behind net held arc)) (sym at) (subst (λ (h : Held). HasRaised f g h.level h.node h.sum) is r)
