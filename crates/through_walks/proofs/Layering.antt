-- The layered cone is a cone, and what its arcs are.

use Rattle.std.proofs.Common.{◌≡◌, ℕ, zero, suc, ◌+◌, ◌-◌, ◌*◌, ◌<◌, ℤ, Bool, true, false, ◌&&◌, ◌||◌, ◌==◌, if◌then◌else◌, inl, inr, List, [], ◌∷◌, ◌++◌, length, map, Option, Some, None, refl, sym, ap, subst, ◌∙◌, arith}
use Rattle.std.specs.Prelude.{◌/◌, ◌%◌, All, IsSome}
use Rattle.std.specs.List.{list_any}
use Rattle.std.proofs.lemmas.Bool.{cases_Bool, cases_eq, eq-eqb, ne_eqb, eqb-true, or_parts, lt-ltb, both_ways, false≢true}
use Rattle.std.proofs.lemmas.List.{length-map, append-nil}
use Rattle.std.proofs.Math.Nat.{mod-lt}
use Rattle.std.proofs.lemmas.List.Elements.{All-nil, All-head, All-tail, All-append, All-map, All-weaker}
use Rattle.std.proofs.lemmas.List.Folds.{list_any-append}
use Rattle.worst_walks.specs.declared.cones.WalkArc.{WalkArc}
use Rattle.worst_walks.specs.declared.cones.Launch.{Launch}
use Rattle.worst_walks.specs.declared.cones.WalkEnd.{WalkEnd}
use Rattle.worst_walks.specs.declared.cones.Cone.{Cone}
use Rattle.worst_walks.specs.Walks.{most_nodes, count_of, listed_into, is_launched, is_first, arcs_into, delay_in, delay_between, AreApart, IsArcInto, IsLaunch, IsEnd, IsCone, IsOrdered}
use Rattle.worst_walks.proofs.Filling.{arcs_there, arcs_apart}
use Rattle.through_walks.specs.declared.stops.Stop.{Stop}
use Rattle.through_walks.specs.Through.{next_stop}
use Rattle.through_walks.specs.Layers.{arc_on, arcs_from, arcs_onto, arcs_layered, first_stage, launch_on, end_on, AreStages, IsLayered, rank_on}
use Rattle.through_walks.proofs.Numbers.{place_at, stage_at, whole, number_low, place_low, numbers_eq}

-- delays in lists of arcs
abbrev first_of : Option ℤ → Option ℤ → Option ℤ
first_of None p = p
first_of (Some d) p = Some d

delay_join-by : (same : Bool) (d : ℤ) (o p : Option ℤ) → (if same then Some d else first_of o p) ≡ first_of (if same then Some d else o) p
delay_join-by true d o p = refl
delay_join-by false d o p = refl

delay_join : (xs ys : List WalkArc) (n : ℕ) → delay_in (xs ++ ys) n ≡ first_of (delay_in xs n) (delay_in ys n)
delay_join [] ys n = refl
delay_join (x ∷ xs) ys n =
    ap (λ o. if x.from == n then Some x.delay else o) (delay_join xs ys n)
    ∙ delay_join-by (x.from == n) x.delay (delay_in xs n) (delay_in ys n)

first_none : (o : Option ℤ) → first_of o None ≡ o
first_none None = refl
first_none (Some d) = refl

abbrev no_delay : Option ℤ
no_delay = None

none_either : (b : Bool) → (if b then no_delay else no_delay) ≡ no_delay
none_either true = refl
none_either false = refl

delay_on-by : (a b : Bool) (d : ℤ) (o : Option ℤ) → (if a && b then Some d else if b then o else None) ≡ (if b then (if a then Some d else o) else None)
delay_on-by true true d o = refl
delay_on-by false true d o = refl
delay_on-by true false d o = refl
delay_on-by false false d o = refl

module _ (k : ℕ) where
  -- the arcs from one stage
  delay_on : (arcs : List WalkArc) (a s t : ℕ) → s < k → t < k
      → delay_in (map (arc_on k t) arcs) (a * k + s) ≡ (if t == s then delay_in arcs a else None)
  delay_on [] a s t low under = sym (none_either (t == s))
  delay_on (arc ∷ arcs) a s t low under =
      ap (λ b. if b then Some arc.delay else delay_in (map (arc_on k t) arcs) (a * k + s)) (numbers_eq k arc.from a t s under low)
      ∙ ap (λ o. if (arc.from == a) && (t == s) then Some arc.delay else o) (delay_on arcs a s t low under)
      ∙ delay_on-by (arc.from == a) (t == s) arc.delay (delay_in arcs a)

  on_apart : (arcs : List WalkArc) (n s : ℕ) → s < k
      → list_any (λ other. other.from == n) arcs ≡ false → list_any (λ other. other.from == n * k + s) (map (arc_on k s) arcs) ≡ false
  on_apart [] n s low e = refl
  on_apart (arc ∷ arcs) n s low e =
      let parts = or_parts (arc.from == n) (list_any (λ (other : WalkArc). other.from == n) arcs) e in
      let off : (arc.from * k + s == n * k + s) ≡ false = numbers_eq k arc.from n s s low low ∙ ap (λ b. b && (s == s)) parts.0 in
      rw off (on_apart arcs n s low parts.1)

  apart_on : (arcs : List WalkArc) (s : ℕ) → s < k → AreApart arcs → AreApart (map (arc_on k s) arcs)
  apart_on [] s low h = tt
  apart_on (arc ∷ arcs) s low h = (on_apart arcs arc.from s low h.0, apart_on arcs s low h.1)

  other_stage : (arcs : List WalkArc) (n s t : ℕ) → s < k → t < k → (t ≡ s → ⊥)
      → list_any (λ other. other.from == n * k + s) (map (arc_on k t) arcs) ≡ false
  other_stage [] n s t low under other = refl
  other_stage (arc ∷ arcs) n s t low under other =
      let off : (arc.from * k + t == n * k + s) ≡ false =
      numbers_eq k arc.from n t s under low ∙ ap (λ b. (arc.from == n) && b) (ne_eqb t s other) ∙ and-false (arc.from == n) in
      rw off (other_stage arcs n s t low under other)
    where
      and-false : (b : Bool) → (b && false) ≡ false
      and-false true = refl
      and-false false = refl

  apart_both : (xs arcs : List WalkArc) (s t : ℕ) → s < k → t < k → (t ≡ s → ⊥) → AreApart (map (arc_on k s) xs) → AreApart (map (arc_on k t) arcs)
      → AreApart (map (arc_on k s) xs ++ map (arc_on k t) arcs)
  apart_both [] arcs s t low under other f g = g
  apart_both (x ∷ xs) arcs s t low under other f g = (
    list_any-append (λ (a : WalkArc). a.from == x.from * k + s) (map (arc_on k s) xs) (map (arc_on k t) arcs)
        ∙ ap (λ b. b || list_any (λ (a : WalkArc). a.from == x.from * k + s) (map (arc_on k t) arcs)) f.0
        ∙ other_stage arcs x.from s t low under other,
    apart_both xs arcs s t low under other f.1 g,
  )

  module _ (stops : List Stop) (arcs : List WalkArc) (b : ℕ) where
    delay_from-by : (at same : Bool) (o p : Option ℤ) → o ≡ (if same then p else None) → (if at then o else None) ≡ (if at && same then p else None)
    delay_from-by true same o p e = e
    delay_from-by false same o p e = refl

    delay_kept : (at : Bool) (xs : List WalkArc) (n : ℕ) → delay_in (if at then xs else []) n ≡ (if at then delay_in xs n else None)
    delay_kept true xs n = refl
    delay_kept false xs n = refl

    delay_from : (a s r t : ℕ) → s < k → r < k
        → delay_in (arcs_from stops k arcs b r t) (a * k + s) ≡ (if (next_stop stops r b == t) && (r == s) then delay_in arcs a else None)
    delay_from a s r t low under =
        delay_kept (next_stop stops r b == t) (map (arc_on k r) arcs) (a * k + s)
        ∙ delay_from-by (next_stop stops r b == t) (r == s) (delay_in (map (arc_on k r) arcs) (a * k + s)) (delay_in arcs a) (delay_on arcs a s r low under)

    here : (a s t : ℕ) → s < k → delay_in (arcs_from stops k arcs b s t) (a * k + s) ≡ (if next_stop stops s b == t then delay_in arcs a else None)
    here a s t low =
        delay_from a s s t low low
        ∙ ap (λ c. if (next_stop stops s b == t) && c then delay_in arcs a else None) (eq-eqb s s refl)
        ∙ ap (λ c. if c then delay_in arcs a else None) (and-true (next_stop stops s b == t))
      where
        and-true : (c : Bool) → (c && true) ≡ c
        and-true true = refl
        and-true false = refl

    away : (a s r t : ℕ) → s < k → r < k → (r ≡ s → ⊥) → delay_in (arcs_from stops k arcs b r t) (a * k + s) ≡ None
    away a s r t low under other =
        delay_from a s r t low under
        ∙ ap (λ c. if (next_stop stops r b == t) && c then delay_in arcs a else None) (ne_eqb r s other)
        ∙ ap (λ c. if c then delay_in arcs a else None) (and-false (next_stop stops r b == t))
      where
        and-false : (c : Bool) → (c && false) ≡ false
        and-false true = refl
        and-false false = refl

    -- a stage is followed by itself or by the next
    next_is-by : (at : Bool) (s t : ℕ) → ((if at then s + 1 else s) == t) ≡ true → (s ≡ t → ⊥) → s + 1 ≡ t
    next_is-by true s t e other = eqb-true (s + 1) t e
    next_is-by false s t e other = absurd (other (eqb-true s t e))

    elsewhere : (s t : ℕ) → (s ≡ t → ⊥) → (suc s ≡ t → ⊥) → (next_stop stops s b == t) ≡ false
    elsewhere s t other past = elim (cases_Bool (next_stop stops s b == t)) [
      | inl is ↦ absurd (past (let n = next_is-by _ s t is other in omega (arith, n)))
      | inr off ↦ off
    ]

    -- the arcs into a place at a stage are those whose stage leads there
    pub delay_onto : (a s t : ℕ) → s < k → t < k
        → delay_in (arcs_onto stops k arcs b t) (a * k + s) ≡ (if next_stop stops s b == t then delay_in arcs a else None)
    delay_onto a s zero low under = elim (cases_eq s 0) [
      | inl is ↦ subst (λ r. delay_in (arcs_onto stops k arcs b 0) (a * k + r) ≡ (if next_stop stops r b == 0 then delay_in arcs a else None)) (sym is) (here a 0 0 under)
      | inr other ↦ away a s 0 0 low under (λ e. other (sym e))
          ∙ sym (ap (λ c. if c then delay_in arcs a else None) (elsewhere s 0 other (λ e. omega (arith, e))))
    ]
    delay_onto a s (suc t) low under =
        delay_join (arcs_from stops k arcs b (suc t) (suc t)) (arcs_from stops k arcs b t (suc t)) (a * k + s)
        ∙ elim (cases_eq s (suc t)) [
          | inl is ↦ subst (λ r. first_of (delay_in (arcs_from stops k arcs b (suc t) (suc t)) (a * k + r)) (delay_in (arcs_from stops k arcs b t (suc t)) (a * k + r))
              ≡ (if next_stop stops r b == suc t then delay_in arcs a else None)) (sym is)
              (ap (first_of (delay_in (arcs_from stops k arcs b (suc t) (suc t)) (a * k + suc t))) (away a (suc t) t (suc t) under (omega arith) (λ e. omega (arith, e)))
              ∙ first_none (delay_in (arcs_from stops k arcs b (suc t) (suc t)) (a * k + suc t)) ∙ here a (suc t) (suc t) under)
          | inr other ↦ ap (λ o. first_of o (delay_in (arcs_from stops k arcs b t (suc t)) (a * k + s))) (away a s (suc t) (suc t) low under (λ e. other (sym e)))
              ∙ elim (cases_eq s t) [
                | inl is ↦ subst (λ r. delay_in (arcs_from stops k arcs b t (suc t)) (a * k + r) ≡ (if next_stop stops r b == suc t then delay_in arcs a else None)) (sym is)
                    (here a t (suc t) (omega arith))
                | inr past ↦ away a s t (suc t) low (omega arith) (λ e. past (sym e))
                    ∙ sym (ap (λ c. if c then delay_in arcs a else None) (elsewhere s (suc t) other (λ e. past (omega (arith, e)))))
              ]
        ]

    kept_apart : (at : Bool) (xs : List WalkArc) → AreApart xs → AreApart (if at then xs else [])
    kept_apart true xs h = h
    kept_apart false xs h = tt

    both_apart : (at too : Bool) (s t : ℕ) → s < k → t < k → (t ≡ s → ⊥) → AreApart arcs
        → AreApart ((if at then map (arc_on k s) arcs else []) ++ (if too then map (arc_on k t) arcs else []))
    both_apart true true s t low under other h = apart_both arcs arcs s t low under other (apart_on arcs s low h) (apart_on arcs t under h)
    both_apart true false s t low under other h = subst AreApart (sym (append-nil (map (arc_on k s) arcs))) (apart_on arcs s low h)
    both_apart false too s t low under other h = kept_apart too (map (arc_on k t) arcs) (apart_on arcs t under h)

    pub apart_onto : (t : ℕ) → t < k → AreApart arcs → AreApart (arcs_onto stops k arcs b t)
    apart_onto zero under h = kept_apart (next_stop stops 0 b == 0) (map (arc_on k 0) arcs) (apart_on arcs 0 under h)
    apart_onto (suc t) under h =
        both_apart (next_stop stops (suc t) b == suc t) (next_stop stops t b == suc t) (suc t) t under (omega arith) (λ e. omega (arith, e)) h

    kept_all : (P : WalkArc → Type 0) (at : Bool) (xs : List WalkArc) → All P xs → All P (if at then xs else [])
    kept_all P true xs h = h
    kept_all P false xs h = All-nil P

    pub all_onto : (P : WalkArc → Type 0) (t : ℕ) → t < k → ((s : ℕ) → s < k → All P (map (arc_on k s) arcs)) → All P (arcs_onto stops k arcs b t)
    all_onto P zero under h = kept_all P (next_stop stops 0 b == 0) (map (arc_on k 0) arcs) (h 0 under)
    all_onto P (suc t) under h =
        All-append P (arcs_from stops k arcs b (suc t) (suc t)) (arcs_from stops k arcs b t (suc t))
        (kept_all P (next_stop stops (suc t) b == suc t) (map (arc_on k (suc t)) arcs) (h (suc t) under))
        (kept_all P (next_stop stops t b == suc t) (map (arc_on k t) arcs) (h t (omega arith)))

abbrev no_list : List WalkArc
no_list = []

-- no arcs into a place: none into it at any stage
none_onto : (stops : List Stop) (k b t : ℕ) → arcs_onto stops k [] b t ≡ []
none_onto stops k b zero = none-kept (next_stop stops 0 b == 0)
  where
    none-kept : (at : Bool) → (if at then no_list else no_list) ≡ no_list
    none-kept true = refl
    none-kept false = refl
none_onto stops k b (suc t) = none-both (next_stop stops (suc t) b == suc t) (next_stop stops t b == suc t)
  where
    none-both : (at too : Bool) → (if at then no_list else no_list) ++ (if too then no_list else no_list) ≡ no_list
    none-both true true = refl
    none-both true false = refl
    none-both false true = refl
    none-both false false = refl

-- the first nodes of the layered cone lie over first nodes
module _ (stops : List Stop) (begun : List ℕ) (k count : ℕ) (stages : AreStages stops begun k) (known : length begun ≡ count) where
  launched_on : (launches : List Launch) (b t : ℕ) → t < k → All (λ launch. launch.node < count) launches
      → is_launched (map (launch_on stops k begun) launches) (b * k + t) ≡ true → is_launched launches b ≡ true
  launched_on [] b t low fine e = absurd (false≢true e)
  launched_on (launch ∷ launches) b t low fine e = elim (cases_Bool (launch.node == b)) [
    | inl is ↦ rw is refl
    | inr off ↦
        let under : launch.node < count = All-head (λ (l : Launch). l.node < count) launch launches fine in
        let first : first_stage stops begun launch.node < k = stages.first launch.node (omega (arith, known, under)) in
        let out : (launch.node * k + first_stage stops begun launch.node == b * k + t) ≡ false =
        numbers_eq k launch.node b (first_stage stops begun launch.node) t first low ∙ ap (λ c. c && (first_stage stops begun launch.node == t)) off in
        rw off (launched_on launches b t low (All-tail (λ (l : Launch). l.node < count) launch launches fine) (rw out at e))
  ]

  first_on : (ends : List WalkEnd) (b t : ℕ) → t < k → All (λ end. All (λ launch. launch.node < count) end.launches) ends
      → list_any (λ end. is_launched end.launches (b * k + t)) (map (end_on stops k begun) ends) ≡ true → list_any (λ end. is_launched end.launches b) ends ≡ true
  first_on [] b t low fine e = absurd (false≢true e)
  first_on (end ∷ ends) b t low fine e = elim (cases_Bool (is_launched end.launches b)) [
    | inl is ↦ rw is refl
    | inr off ↦ elim (cases_Bool (is_launched (map (launch_on stops k begun) end.launches) (b * k + t))) [
      | inl on ↦ absurd (both_ways (is_launched end.launches b) off
          (launched_on end.launches b t low (All-head (λ (x : WalkEnd). All (λ (l : Launch). l.node < count) x.launches) end ends fine) on))
      | inr out ↦ rw off (first_on ends b t low (All-tail (λ (x : WalkEnd). All (λ (l : Launch). l.node < count) x.launches) end ends fine) (rw out at e))
    ]
  ]

-- none into a first node
no_arcs : (cone : Cone) (n : ℕ) → is_first cone n ≡ true → arcs_into cone n ≡ []
unfolding arcs_into
no_arcs cone n is = rw is refl

module _ (cone : Cone) (stops : List Stop) (begun : List ℕ) (k : ℕ) (layers : Cone) (good : IsCone cone) (known : length begun ≡ count_of cone)
    (stages : AreStages stops begun k) (h : IsLayered cone stops begun k layers) where
  some : 0 < k
  some = let last = stages.last in omega arith

  stage_low : (n : ℕ) → n % k < k
  stage_low n = mod-lt n {m = k} some

  layer_low : (n : ℕ) → n < count_of layers → n / k < count_of cone
  layer_low n low = let count = h.count in place_low k n (count_of cone) some (omega (arith, count, low))

  number_there : (a s : ℕ) → a < count_of cone → s < k → a * k + s < count_of layers
  number_there a s low under = let count = h.count in let there = number_low k a (count_of cone) s low under in omega (arith, count, there)

  first_there : (n : ℕ) → n < count_of cone → first_stage stops begun n < k
  first_there n low = stages.first n (omega (arith, known, low))

  listed_on : (n : ℕ) → n < count_of layers → listed_into layers n ≡ arcs_layered stops k cone n
  listed_on n low = let count = h.count in h.parts.each n (omega (arith, count, low))

  arc_there : (n s : ℕ) → n < count_of layers → s < k → All (IsArcInto layers n) (map (arc_on k s) (arcs_into cone (n / k)))
  arc_there n s low under =
      All-map (IsArcInto layers n) (arc_on k s) (arcs_into cone (n / k))
      (All-weaker (IsArcInto cone (n / k)) (λ arc. IsArcInto layers n (arc_on k s arc))
      (λ arc into.
      let above : n / k * k + n % k < arc.from * k = number_low k (n / k) arc.from (n % k) into.0 (stage_low n) in
      let is : n / k * k + n % k ≡ n = whole k n in
      (omega (arith, above, is), number_there arc.from s into.1 under, into.2))
      (arcs_into cone (n / k)) (arcs_there cone (n / k) good (layer_low n low)))

  pub is_cone : count_of layers < most_nodes → IsCone layers
  is_cone few =
      let count = h.count in
      let long = length-map cone.ends (end_on stops k begun) in
      let same = ap length h.ends in
      let many = good.many in
      record {
        few = few;
        starts = h.parts.long ∙ ap (λ n. n + 1) (sym count);
        rising = λ n low. h.parts.rising n (omega (arith, count, low));
        stored = λ n low. h.parts.stored n (omega (arith, count, low));
        arcs = λ n low. subst (All (IsArcInto layers n)) (sym (listed_on n low))
            (all_onto k stops (arcs_into cone (n / k)) (n / k) (IsArcInto layers n) (n % k) (stage_low n) (λ s under. arc_there n s low under));
        apart = λ n low. subst AreApart (sym (listed_on n low))
            (apart_onto k stops (arcs_into cone (n / k)) (n / k) (n % k) (stage_low n) (arcs_apart cone (n / k) good (layer_low n low)));
        many = omega (arith, long, same, many);
        ends = subst (All (IsEnd layers)) (sym h.ends)
            (All-map (IsEnd layers) (end_on stops k begun) cone.ends
            (All-weaker (IsEnd cone) (λ end. IsEnd layers (end_on stops k begun end)) (λ end fine. end_there end fine) cone.ends good.ends));
      }
    where
      launch_there : (launch : Launch) → IsLaunch cone launch → IsLaunch layers (launch_on stops k begun launch)
      launch_there launch fine = (number_there launch.node (first_stage stops begun launch.node) fine.0 (first_there launch.node fine.0), fine.1)

      end_there : (end : WalkEnd) → IsEnd cone end → IsEnd layers (end_on stops k begun end)
      end_there end fine =
          let long = length-map end.launches (launch_on stops k begun) in
          let many = fine.many in
          record {
            node = number_there end.node (length stops) fine.node stages.last;
            many = omega (arith, long, many);
            each = All-map (IsLaunch layers) (launch_on stops k begun) end.launches
                (All-weaker (IsLaunch cone) (λ launch. IsLaunch layers (launch_on stops k begun launch)) launch_there end.launches fine.each);
          }

  launches_low : All (λ end. All (λ launch. launch.node < count_of cone) end.launches) cone.ends
  launches_low =
      All-weaker (IsEnd cone) (λ end. All (λ (launch : Launch). launch.node < count_of cone) end.launches)
      (λ end fine. All-weaker (IsLaunch cone) (λ (launch : Launch). launch.node < count_of cone) (λ launch l. l.0) end.launches fine.each) cone.ends good.ends

  first_over : (b t : ℕ) → t < k → is_first layers (b * k + t) ≡ true → is_first cone b ≡ true
  first_over b t low e =
      first_on stops begun k (count_of cone) stages known cone.ends b t low launches_low
      (ap (λ ends. list_any (λ (end : WalkEnd). is_launched end.launches (b * k + t)) ends) (sym h.ends) ∙ e)

  -- the arcs that a walk can follow
  followed-by : (b t : ℕ) (first : Bool) → b < count_of cone → t < k → is_first layers (b * k + t) ≡ first
      → (if first then [] else listed_into layers (b * k + t)) ≡ arcs_onto stops k (arcs_into cone b) b t
  followed-by b t true low under e =
      sym (ap (λ arcs. arcs_onto stops k arcs b t) (no_arcs cone b (first_over b t under e)) ∙ none_onto stops k b t)
  followed-by b t false low under e =
      listed_on (b * k + t) (number_there b t low under)
      ∙ ap (λ n. arcs_onto stops k (arcs_into cone n) n ((b * k + t) % k)) (place_at k b t under)
      ∙ ap (arcs_onto stops k (arcs_into cone b) b) (stage_at k b t under)

  followed : (b t : ℕ) → b < count_of cone → t < k → arcs_into layers (b * k + t) ≡ arcs_onto stops k (arcs_into cone b) b t
  unfolding arcs_into
  followed b t low under = followed-by b t (is_first layers (b * k + t)) low under refl

  -- an arc leads from a stage to the stage behind its node
  pub delay_layered : (a s b t : ℕ) → s < k → b < count_of cone → t < k
      → delay_between layers (a * k + s) (b * k + t) ≡ (if next_stop stops s b == t then delay_between cone a b else None)
  delay_layered a s b t low there under =
      ap (λ arcs. delay_in arcs (a * k + s)) (followed b t there under)
      ∙ delay_onto k stops (arcs_into cone b) b a s t low under

  pub delay_numbered : (x y : ℕ) → y < count_of layers
      → delay_between layers x y ≡ (if next_stop stops (x % k) (y / k) == y % k then delay_between cone (x / k) (y / k) else None)
  delay_numbered x y low =
      ap (λ n. delay_between layers n y) (sym (whole k x)) ∙ ap (delay_between layers (x / k * k + x % k)) (sym (whole k y))
      ∙ delay_layered (x / k) (x % k) (y / k) (y % k) (stage_low x) (layer_low y low) (stage_low y)

  some_if : (b : Bool) (o : Option ℤ) → IsSome (if b then o else None) → (b ≡ true) × IsSome o
  some_if true o i = (refl, i)
  some_if false o i = absurd (none_is i)
    where
      none_is : IsSome no_delay → ⊥
      none_is j = false≢true j

  place_is : (rank : ℕ → ℕ) (n : ℕ) → n < count_of layers → rank_on k (count_of layers) rank n ≡ rank (n / k)
  place_is rank n low = ap (λ b. rank (if b then n / k else n - count_of layers)) (lt-ltb n (count_of layers) low)

  pub ordered : (count : ℕ) (rank : ℕ → ℕ) → IsOrdered cone count rank
      → IsOrdered layers (count_of layers + count) (rank_on k (count_of layers) rank)
  ordered count rank order = record {
    known = omega arith;
    ranked = λ n a b low high to by e.
        let left = some_if (next_stop stops (n % k) (a / k) == a % k) (delay_between cone (n / k) (a / k)) (subst IsSome (delay_numbered n a low) to) in
        let right = some_if (next_stop stops (n % k) (b / k) == b % k) (delay_between cone (n / k) (b / k)) (subst IsSome (delay_numbered n b high) by) in
        let same : a / k ≡ b / k =
        order.ranked (n / k) (a / k) (b / k) (layer_low a low) (layer_low b high) left.1 right.1 (sym (place_is rank a low) ∙ e ∙ place_is rank b high) in
        let stage : a % k ≡ b % k =
        sym (eqb-true (next_stop stops (n % k) (a / k)) (a % k) left.0) ∙ ap (next_stop stops (n % k)) same ∙ eqb-true (next_stop stops (n % k) (b / k)) (b % k) right.0 in
        sym (whole k a) ∙ ap (λ p. p * k + a % k) same ∙ ap (λ s. b / k * k + s) stage ∙ whole k b;
  }
