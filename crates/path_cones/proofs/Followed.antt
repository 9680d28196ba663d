-- The arcs that are followed into one node: from lower levels, one from each node, with the delays of the
-- definition.

use Rattle.std.proofs.Common.{◌≡◌, ℕ, zero, suc, ◌+◌, ◌<◌, ◌≤◌, ℤ, Bool, true, false, ◌||◌, if◌then◌else◌, cond, List, [], ◌∷◌, ◌++◌, length, take, get_or, Option, None, Some, refl, sym, ap, subst, ◌∙◌, inl, inr, arith}
use Rattle.std.specs.Prelude.{nat_eq, All, Contains, option_map, count_by}
use Rattle.std.specs.List.{list_any, filter_map, cons_option}
use Rattle.std.specs.Option.{option_to_list}
use Rattle.std.proofs.lemmas.Bool.{cases_Bool, cases_eq, eqb-true, eq-eqb, ne_eqb}
use Rattle.std.proofs.lemmas.List.{get_or_default}
use Rattle.std.proofs.lemmas.Option.{none-some}
use Rattle.std.proofs.lemmas.List.Elements.{All-contains_itself}
use Rattle.sta_units.specs.Numbers.{Within}
use Rattle.timing_defs.specs.declared.kinds.Kind.{Kind}
use Rattle.timing_defs.specs.Kinds.{data_split}
use Rattle.netlist_store.specs.Linked.{IsLinked}
use Rattle.netlist_store.specs.Numbering.{Stored, IsNumbered}
use Rattle.pin_graph.specs.declared.arcs.GraphArc.{GraphArc}
use Rattle.pin_graph.specs.Nodes.{node_bound}
use Rattle.pin_graph.specs.Graphs.{Graphed, IsGraph, fan_at, level_at, network_at}
use Rattle.timing_defs.proofs.Members.{some_is, none_in, any_back, in_filter_map_back}
use Rattle.pin_graph.proofs.ArcLaws.{mapped_more}
use Rattle.worst_walks.specs.declared.cones.WalkArc.{WalkArc}
use Rattle.worst_walks.specs.Walks.{delay_in, AreApart}
use Rattle.arc_delays.specs.declared.tables.ArcDelay.{ArcDelay}
use Rattle.arc_delays.specs.Delays.{AreDelays, delay_numbered}
use Rattle.path_cones.specs.Reaching.{followed}
use Rattle.path_cones.specs.Delays.{arc_numbered, signed, followed_delay}
use Rattle.path_cones.specs.Following.{numbered_arc, arcs_followed, IsFromBelow, AreFollowed}
use Rattle.path_cones.proofs.Growing.{from_low}
use Rattle.path_cones.proofs.ConeLaws.{counted, counted_in}
use Rattle.path_cones.proofs.ConeParts.{some_within, signed_bound, rising_along, arc_is}

-- one arc more
pub arc_more : (s : Stored) (kind : Kind) (ys ys' : List WalkArc) (xs : List GraphArc) (i : ℕ) (d : GraphArc) (o : Option WalkArc) → i < length xs
    → o ≡ numbered_arc s kind (get_or xs i d) → ys ≡ filter_map (numbered_arc s kind) (take i xs) → ys' ≡ ys ++ option_to_list o
    → ys' ≡ filter_map (numbered_arc s kind) (take (i + 1) xs)
arc_more s kind ys ys' xs i d o low is had put =
    mapped_more (numbered_arc s kind) [] ys ys' xs i (get_or xs i d) o low (get_or_default xs i d (get_or xs i d) low) is had put

-- an arc from a node, by its delay
abbrev told_arc : Kind → ℕ → ℤ → WalkArc
told_arc kind a v = record { from = a; delay = signed kind v }

module _ (s : Stored) (kind : Kind) where
  -- an arc by numbers is that of an arc of the graph
  record IsNumberedArc (arc : GraphArc) (w : WalkArc) : Type 0 where
    pub node : w.from ≡ arc.from
    pub delay : ℤ
    pub told : delay_numbered s (data_split kind) arc.from arc.to ≡ Some delay
    pub turned : w.delay ≡ signed kind delay

  numbered : (arc : GraphArc) (w : WalkArc) → numbered_arc s kind arc ≡ Some w → IsNumberedArc arc w
  numbered arc w e = by (delay_numbered s (data_split kind) arc.from arc.to) refl e
    where
      by : (o : Option ℤ) → delay_numbered s (data_split kind) arc.from arc.to ≡ o → option_map (told_arc kind arc.from) o ≡ Some w → IsNumberedArc arc w
      by None d f = absurd (none-some w f)
      by (Some v) d f =
          let same : ◌≡◌ {A = WalkArc} (record { from = arc.from; delay = signed kind v }) w = some_is f in
          record {
            node = sym (ap (λ (x : WalkArc). x.from) same);
            delay = v;
            told = d;
            turned = sym (ap (λ (x : WalkArc). x.delay) same);
          }

  -- what holds of each arc
  each_part : (P : ℕ → ℤ → Type 0) (arcs : List GraphArc)
      → ((arc : GraphArc) → Contains arcs arc → (v : ℤ) → delay_numbered s (data_split kind) arc.from arc.to ≡ Some v → P arc.from (signed kind v))
      → All (λ (w : WalkArc). P w.from w.delay) (filter_map (numbered_arc s kind) arcs)
  each_part P arcs fine = λ i d l.
      let w = get_or (filter_map (numbered_arc s kind) arcs) i d in
      let r = in_filter_map_back (numbered_arc s kind) arcs w (All-contains_itself (filter_map (numbered_arc s kind) arcs) i d l) in
      let k = numbered r.item w r.same in
      subst (λ (x : ℕ). P x w.delay) (sym k.node) (subst (λ (z : ℤ). P r.item.from z) (sym k.turned) (fine r.item r.within k.delay k.told))

  -- one arc from each node
  apart_part : (arcs : List GraphArc) → ((other : ℕ) → count_by (λ arc. nat_eq arc.from other) arcs ≤ 1) → AreApart (filter_map (numbered_arc s kind) arcs)
  apart_part [] one = tt
  apart_part (arc ∷ arcs) one = by (numbered_arc s kind arc) refl (apart_part arcs fewer)
    where
      fewer : (other : ℕ) → count_by (λ (x : GraphArc). nat_eq x.from other) arcs ≤ 1
      fewer other = let a = counted (λ (x : GraphArc). nat_eq x.from other) arc arcs in let h = one other in omega (arith, a, h)

      lone : (w : WalkArc) → numbered_arc s kind arc ≡ Some w → list_any (λ (other : WalkArc). nat_eq other.from w.from) (filter_map (numbered_arc s kind) arcs) ≡ false
      lone w e = elim (cases_Bool (list_any (λ (other : WalkArc). nat_eq other.from w.from) (filter_map (numbered_arc s kind) arcs))) [
        | inr none ↦ none
        | inl some ↦
            let r = any_back (λ (other : WalkArc). nat_eq other.from w.from) (filter_map (numbered_arc s kind) arcs) some in
            let m = in_filter_map_back (numbered_arc s kind) arcs r.item r.within in
            let k = numbered m.item r.item m.same in
            let j = numbered arc w e in
            let from : m.item.from ≡ arc.from = sym k.node ∙ eqb-true r.item.from w.from r.passes ∙ j.node in
            let c = counted_in (λ (x : GraphArc). nat_eq x.from arc.from) arcs m.item m.within (eq-eqb m.item.from arc.from from) in
            let a = counted (λ (x : GraphArc). nat_eq x.from arc.from) arc arcs in
            let b : cond {A = ℕ} (nat_eq arc.from arc.from) 1 0 ≡ 1 = ap (λ t. cond {A = ℕ} t 1 0) (eq-eqb arc.from arc.from refl) in
            let h = one arc.from in
            absurd (omega (arith, a, b, c, h))
      ]

      by : (o : Option WalkArc) → numbered_arc s kind arc ≡ o → AreApart (filter_map (numbered_arc s kind) arcs)
          → AreApart (cons_option o (filter_map (numbered_arc s kind) arcs))
      by None e more = more
      by (Some w) e more = (lone w e, more)

  -- the delay from a node
  delay_part : (x n : ℕ) (arcs : List GraphArc) → ((arc : GraphArc) → Contains arcs arc → arc.to ≡ n)
      → delay_in (filter_map (numbered_arc s kind) arcs) x
      ≡ (if list_any (λ arc. nat_eq arc.from x) arcs then option_map (signed kind) (delay_numbered s (data_split kind) x n) else None)
  delay_part x n [] to = refl
  delay_part x n (arc ∷ arcs) to =
      let rest = delay_part x n arcs (λ y c. to y (let l = c.1 in (suc c.0, omega (arith, l), c.2))) in
      elim (cases_eq arc.from x) [
        | inl same ↦ here rest same (delay_numbered s (data_split kind) x n) refl
        | inr other ↦ there rest other (numbered_arc s kind arc) refl
      ]
    where
      walk_here : arc.from ≡ x → numbered_arc s kind arc ≡ option_map (told_arc kind x) (delay_numbered s (data_split kind) x n)
      walk_here same =
          ap (λ f. option_map (told_arc kind f) (delay_numbered s (data_split kind) f arc.to)) same
          ∙ ap (λ t. option_map (told_arc kind x) (delay_numbered s (data_split kind) x t)) (to arc (0, omega arith, refl))

      nothing : (b : Bool) → ◌≡◌ {A = Option ℤ} (if b then None else None) None
      nothing true = refl
      nothing false = refl

      here : delay_in (filter_map (numbered_arc s kind) arcs) x ≡ (if list_any (λ (y : GraphArc). nat_eq y.from x) arcs then option_map (signed kind) (delay_numbered s (data_split kind) x n) else None)
          → arc.from ≡ x → (o : Option ℤ) → delay_numbered s (data_split kind) x n ≡ o
          → delay_in (cons_option (numbered_arc s kind arc) (filter_map (numbered_arc s kind) arcs)) x
          ≡ (if nat_eq arc.from x || list_any (λ (y : GraphArc). nat_eq y.from x) arcs then option_map (signed kind) (delay_numbered s (data_split kind) x n) else None)
      here rest same None d =
          ap (λ (w : Option WalkArc). delay_in (cons_option w (filter_map (numbered_arc s kind) arcs)) x)
          (walk_here same ∙ ap (option_map (told_arc kind x)) d)
          ∙ rest
          ∙ ap (λ o. if list_any (λ (y : GraphArc). nat_eq y.from x) arcs then option_map (signed kind) o else None) d
          ∙ nothing (list_any (λ (y : GraphArc). nat_eq y.from x) arcs)
          ∙ sym (ap (λ o. if nat_eq arc.from x || list_any (λ (y : GraphArc). nat_eq y.from x) arcs then option_map (signed kind) o else None) d
          ∙ nothing (nat_eq arc.from x || list_any (λ (y : GraphArc). nat_eq y.from x) arcs))
      here rest same (Some v) d =
          ap (λ (w : Option WalkArc). delay_in (cons_option w (filter_map (numbered_arc s kind) arcs)) x)
          (walk_here same ∙ ap (option_map (told_arc kind x)) d)
          ∙ ap (λ b. if b then Some (signed kind v) else delay_in (filter_map (numbered_arc s kind) arcs) x) (eq-eqb x x refl)
          ∙ sym (ap (λ o. if nat_eq arc.from x || list_any (λ (y : GraphArc). nat_eq y.from x) arcs then option_map (signed kind) o else None) d
          ∙ ap (λ b. if b || list_any (λ (y : GraphArc). nat_eq y.from x) arcs then Some (signed kind v) else None) (eq-eqb arc.from x same))

      there : delay_in (filter_map (numbered_arc s kind) arcs) x ≡ (if list_any (λ (y : GraphArc). nat_eq y.from x) arcs then option_map (signed kind) (delay_numbered s (data_split kind) x n) else None)
          → (arc.from ≡ x → ⊥) → (w : Option WalkArc) → numbered_arc s kind arc ≡ w
          → delay_in (cons_option w (filter_map (numbered_arc s kind) arcs)) x
          ≡ (if nat_eq arc.from x || list_any (λ (y : GraphArc). nat_eq y.from x) arcs then option_map (signed kind) (delay_numbered s (data_split kind) x n) else None)
      there rest other None e =
          rest ∙ ap (λ b. if b || list_any (λ (y : GraphArc). nat_eq y.from x) arcs then option_map (signed kind) (delay_numbered s (data_split kind) x n) else None)
          (sym (ne_eqb arc.from x other))
      there rest other (Some w) e =
          let k = numbered arc w e in
          ap (λ b. if b then Some w.delay else delay_in (filter_map (numbered_arc s kind) arcs) x)
          (ne_eqb w.from x (λ q. other (sym k.node ∙ q)))
          ∙ rest ∙ ap (λ b. if b || list_any (λ (y : GraphArc). nat_eq y.from x) arcs then option_map (signed kind) (delay_numbered s (data_split kind) x n) else None)
          (sym (ne_eqb arc.from x other))

module _ (g : Graphed) (num : IsNumbered g.stored) (linked : IsLinked g.stored.design) (is : IsGraph g) (table : List (List ArcDelay)) (found : AreDelays g.stored table) (kind : Kind)
    (n : ℕ) (low : n < node_bound g.stored) where
  -- an arc that is followed into a node
  arc_low : (b : Bool) (arc : GraphArc) → Contains (if b then [] else fan_at g.ins n) arc → Contains (fan_at g.ins n) arc
  arc_low true arc c = absurd (none_in arc c)
  arc_low false arc c = c

  its_fine : (arc : GraphArc) → Contains (followed g n) arc → (v : ℤ) → delay_numbered g.stored (data_split kind) arc.from arc.to ≡ Some v
      → (level_at g arc.from < level_at g n) × (arc.from < node_bound g.stored) × Within (signed kind v)
  its_fine arc c v e =
      let within = arc_low (network_at g n) arc c in
      let a = ((is.ins n low).sound arc within).0 in (
        rising_along g num linked is n low arc within,
        from_low g.stored arc.from a.from a.from_number,
        signed_bound kind v (some_within (delay_numbered g.stored (data_split kind) arc.from arc.to) v e (found.within (data_split kind) arc a)),
      )

  one_from : (b : Bool) → AreApart (filter_map (numbered_arc g.stored kind) (if b then [] else fan_at g.ins n))
  one_from true = apart_part g.stored kind [] (λ other. omega arith)
  one_from false = apart_part g.stored kind (fan_at g.ins n) (λ other. (is.ins n low).once other)

  turn : (b : Bool) (o : Option ℤ) → (if b then option_map (signed kind) o else None) ≡ option_map (signed kind) (if b then o else None)
  turn true o = refl
  turn false o = refl

  delay_is : (a : ℕ) (b : Bool) → delay_in (filter_map (numbered_arc g.stored kind) (if b then [] else fan_at g.ins n)) a
      ≡ (if b then None else option_map (signed kind) (arc_numbered g.stored (data_split kind) a n))
  delay_is a true = refl
  delay_is a false =
      delay_part g.stored kind a n (fan_at g.ins n) (λ arc c. ((is.ins n low).sound arc c).1)
      ∙ turn (list_any (λ (arc : GraphArc). nat_eq arc.from a) (fan_at g.ins n)) (delay_numbered g.stored (data_split kind) a n)
      ∙ ap (option_map (signed kind)) (sym (arc_is g num linked is (data_split kind) a n low))

  pub are_followed : AreFollowed g kind n (arcs_followed g kind n)
  are_followed = record {
    below = each_part g.stored kind (λ x v. (level_at g x < level_at g n) × (x < node_bound g.stored) × Within v) (followed g n) its_fine;
    apart = one_from (network_at g n);
    delays = λ a. delay_is a (network_at g n);
  }
