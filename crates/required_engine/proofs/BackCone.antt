-- What an edit affects of required times is a cone: a node that is not affected keeps its row, and each that is affected is a
-- backward one.

use Rattle.std.proofs.Common.{◌≡◌, ℕ, suc, ◌+◌, ◌<◌, ◌≤◌, ◌==◌, Bool, true, false, not, ◌&&◌, ◌||◌, List, [], ◌∷◌, map, get_or, All, Option, None, Some, refl, sym, ap, subst, ◌∙◌, inl, inr, arith}
use Rattle.std.specs.Prelude.{Contains, is_some, if◌then◌else◌}
use Rattle.std.specs.List.{list_any, range_with_len}
use Rattle.std.specs.Option.{option_map_or}
use Rattle.std.specs.Str.{bytes_eq}
use Rattle.std.proofs.Math.Nat.{max-eq_left, max-eq_right}
use Rattle.std.proofs.lemmas.Bool.{cases_Bool, cases_lt, or_parts, or_cases, eq-eqb, eqb-true, true≢false}
use Rattle.std.proofs.lemmas.List.Elements.{All-contains_itself}
use Rattle.std.proofs.lemmas.List.FromFn.{length-range_with_len}
use Rattle.timing_defs.specs.declared.design.Design.{Design}
use Rattle.timing_defs.specs.declared.rows.BackRow.{BackRow}
use Rattle.timing_defs.specs.Netlist.{Pin, Node, name_of, pins, nodes}
use Rattle.timing_rules.specs.Required.{arcs_out, back_row, empty_back}
use Rattle.timing_rules.specs.Paths.{named, node_named}
use Rattle.timing_defs.specs.Touches.{Touch}
use Rattle.timing_rules.specs.Cones.{same_back, is_seed, row_differs, back_differs, led_to_before, leads_to_seed, has_changed_clock, is_backward, has_register_arc}
use Rattle.timing_defs.proofs.SameNames.{same_is}
use Rattle.timing_defs.proofs.Members.{first_in, later_in, in_map, in_map_back, any_in, any_back, found_passes, number_in}
use Rattle.netlist_store.specs.Linked.{IsLinked}
use Rattle.netlist_store.specs.Numbering.{Stored, IsNumbered, number_of}
use Rattle.netlist_store.specs.Applying.{IsEditOf}
use Rattle.eco_laws.proofs.EditOf.{base_linked, edited_linked, numbers_kept}
use Rattle.levelizer.specs.Levels.{greatest}
use Rattle.level_cone.specs.Cone.{Cone, IsCone, AreOuts, affected}
use Rattle.pin_graph.specs.declared.arcs.GraphArc.{GraphArc}
use Rattle.pin_graph.specs.Nodes.{node_at, node_bound, node_number}
use Rattle.pin_graph.specs.Graphs.{Graphed, IsGraph, IsArc, fan_at, level_at, from_of, to_of, of_node, kind_between}
use Rattle.pin_graph.specs.RowTables.{back_numbered}
use Rattle.store_pins.proofs.PinLaws.{pin_told}
use Rattle.pin_graph.proofs.NodeLaws.{HasNode, has_node, node_told, node_below}
use Rattle.pin_graph.proofs.LevelBound.{level_low}
use Rattle.pin_graph.proofs.GraphRows.{Stands, level, level_is, low_level, placed, high}
use Rattle.calm_laws.proofs.InDesign.{ArePlaces}
use Rattle.calm_laws.proofs.NoSeeds.{either_none}
use Rattle.calm_laws.proofs.NoSeedCalm.{named_node, no_seed_calm}
use Rattle.calm_laws.proofs.SameRows.{back_told}
use Rattle.back_laws.proofs.Backward.{back_calm_of, back_row_kept}
use Rattle.required_engine.specs.Updated.{AreFirst, is_first, top_level, back_before, back_cone}
use Rattle.required_engine.proofs.BackLaws.{out_in, in_out}

none_from : {X : Type 0} (f : X → Bool) (xs : List X) → ((x : X) → Contains xs x → f x ≡ false) → list_any f xs ≡ false
none_from f [] each = refl
none_from f (x ∷ xs) each = let e = each x (first_in x xs) in rw e (none_from f xs (λ y c. each y (later_in x xs y c)))

none_at : {X : Type 0} (f : X → Bool) (xs : List X) (x : X) → list_any f xs ≡ false → Contains xs x → f x ≡ false
none_at f xs x none c = elim (cases_Bool (f x)) [
  | inl e ↦ absurd (true≢false (sym (any_in f xs x c e) ∙ none))
  | inr e ↦ e
]

all_from : {X : Type 0} (P : X → Type 0) (xs : List X) → ((x : X) → Contains xs x → P x) → All P xs
all_from P xs each = λ i e l. each (get_or xs i e) (All-contains_itself xs i e l)

bool_both : (a b : Bool) → (a ≡ true → b ≡ true) → (b ≡ true → a ≡ true) → a ≡ b
bool_both true true f g = refl
bool_both true false f g = sym (f refl)
bool_both false true f g = g refl
bool_both false false f g = refl

five_none : (a b c d e : Bool) → a ≡ false → b ≡ false → c ≡ false → d ≡ false → e ≡ false → (a || b || c || d || e) ≡ false
five_none a b c d e f g h i j = rw (f, g, h, i, j) refl

fourth : (a b c d e : Bool) → d ≡ true → (a || b || c || d || e) ≡ true
fourth true b c d e h = refl
fourth false true c d e h = refl
fourth false false true d e h = refl
fourth false false false true e h = refl
fourth false false false false e h = absurd (true≢false (sym h))

-- levels are below the number of nodes
greatest_at : {X : Type 0} (f : X → ℕ) (xs : List X) (k : ℕ) → greatest (map f xs) ≡ suc k → (x : X) × (Contains xs x × (f x ≡ suc k))
greatest_at f [] k e = absurd (omega (arith, e))
greatest_at f (x ∷ xs) k e = elim (cases_lt (f x) (greatest (map f xs))) [
  | inl low ↦ let same = max-eq_right (let l : f x ≤ greatest (map f xs) = omega (arith, low) in l) in let r = greatest_at f xs k (sym same ∙ e) in (r.0, (later_in x xs r.0 r.1.0, r.1.1))
  | inr up ↦ let same = max-eq_left (let l : greatest (map f xs) ≤ f x = omega (arith, up) in l) in (x, (first_in x xs, sym same ∙ e))
]

module _ (g : Graphed) (num : IsNumbered g.stored) (linked : IsLinked g.stored.design) (is : IsGraph g) where
  abbrev s : Stored
  s = g.stored

  pub stood : (n : Node) → Contains (pins s.design) n.pin → Stands g num linked is n
  stood n c = let p = pin_told s num linked n.pin c in (node_number p.0 n.tran, record { pin = p.0; has = p.1; number = refl })

  pub places_of : ArePlaces s.design (level g num linked is)
  places_of = record {
    rising = λ to c from a. (placed g num linked is).rising to (stood to c) from a;
    short = λ n c. low_level g num linked is n (stood n c);
  }

  from_low : (n : ℕ) → n < node_bound s → (arc : GraphArc) → Contains (fan_at g.ins n) arc → arc.from < node_bound s
  from_low n low arc c =
      let a = ((is.ins n low).sound arc c).0 in
      node_below s a.from arc.from (has_node s num linked arc.from a.from a.from_number)

  pub froms_low : (n : ℕ) → n < node_bound s → All (λ (arc : GraphArc). arc.from < node_bound s) (fan_at g.ins n)
  froms_low n low = all_from (λ (arc : GraphArc). arc.from < node_bound s) (fan_at g.ins n) (from_low n low)

  pub to_low : (n : ℕ) → n < node_bound s → (arc : GraphArc) → Contains (fan_at g.outs n) arc → arc.to < node_bound s
  to_low n low arc c =
      let a = ((is.outs n low).sound arc c).0 in
      node_below s a.to arc.to (has_node s num linked arc.to a.to a.to_number)

  pub level_under : (n : ℕ) → n < node_bound s → level_at g n < 4294967296
  level_under n low =
      let under = level_low (range_with_len 0 (node_bound s)) (λ k. k < node_bound s) (λ k l. number_in (node_bound s) k l) (level_at g) lower n low in
      let long = length-range_with_len 0 (node_bound s) in
      let most = num.pins.below in
      omega (arith, under, long, most)
    where
      lower : (x k : ℕ) → x < node_bound s → level_at g x ≡ suc k → (y : ℕ) × ((y < node_bound s) × (level_at g y ≡ k))
      lower x k l e =
          let r = greatest_at (λ (arc : GraphArc). level_at g arc.from + 1) (fan_at g.ins x) k (sym (is.levels.level x l) ∙ e) in
          (r.0.from, (from_low x l r.0 r.1.0, (let f = r.1.1 in omega (arith, f))))

  -- levels from the top rise against the arcs
  pub falls : (n : ℕ) → n < node_bound s → (arc : GraphArc) → Contains (fan_at g.outs n) arc → top_level g arc.to < top_level g n
  falls n low arc c =
      let o = (is.outs n low).sound arc c in
      let a = o.0 in
      let f = has_node s num linked arc.from a.from a.from_number in
      let t = has_node s num linked arc.to a.to a.to_number in
      let up = (placed g num linked is).rising a.to (arc.to, t) a.from a.within in
      let x = level_is g num linked is a.from arc.from f in
      let y = level_is g num linked is a.to arc.to t in
      let z : level_at g arc.from ≡ level_at g n = ap (level_at g) o.1 in
      let most = level_under arc.to (to_low n low arc c) in
      omega (arith, up, x, y, z, most)

  -- an arc out of a node, by its numbers
  pub record IsOnto (n : ℕ) (to : Node) : Type 0 where
    pub arc : GraphArc
    pub within : Contains (fan_at g.outs n) arc
    pub told : node_at s arc.to ≡ Some to
    pub stands : Stands g num linked is to

  pub onto : (n : ℕ) → n < node_bound s → (node : Node) → node_at s n ≡ Some node → (to : Node) → Contains (arcs_out s.design node) to → IsOnto n to
  onto n low node told to c =
      let own : Stands g num linked is node = (n, has_node s num linked n node told) in
      let t = (high g num linked is).closed node own to c in
      let arc : GraphArc = record { from = n; to = t.0; kind = kind_between s.design node to; edge = has_register_arc s.design node to } in
      let arc_is : IsArc s arc = record {
        from = node;
        from_number = told;
        to = to;
        to_number = node_told s to t.0 t.1;
        within = out_in g num linked is node own to c;
        kind = refl;
        edge = refl;
      } in
      record { arc = arc; within = (is.outs n low).all arc arc_is refl; told = node_told s to t.0 t.1; stands = t }

  -- and back
  pub out_of : (n : ℕ) → n < node_bound s → (arc : GraphArc) → Contains (fan_at g.outs n) arc → (node : Node) × ((node_at s n ≡ Some node) × ((to : Node) × ((node_at s arc.to ≡ Some to) × Contains (arcs_out s.design node) to)))
  out_of n low arc c =
      let o = (is.outs n low).sound arc c in
      let a = o.0 in
      (a.from, (ap (node_at s) (sym o.1) ∙ a.from_number, (a.to, (a.to_number, in_out g num linked is a.to (arc.to, has_node s num linked arc.to a.to a.to_number) a.from a.within))))

  -- a number from which no arc leads out of a node
  pub outs_turned : (m n : ℕ) → m < node_bound s → n < node_bound s
      → list_any (λ y. y == n) (map from_of (fan_at g.ins m)) ≡ list_any (λ y. y == m) (map to_of (fan_at g.outs n))
  outs_turned m n lm ln = bool_both (list_any (λ y. y == n) (map from_of (fan_at g.ins m))) (list_any (λ y. y == m) (map to_of (fan_at g.outs n)))
      (λ e.
      let r = any_back (λ y. y == n) (map from_of (fan_at g.ins m)) e in
      let k = in_map_back from_of (fan_at g.ins m) r.item r.within in
      let o = (is.ins m lm).sound k.item k.within in
      let from : k.item.from ≡ n = k.same ∙ eqb-true r.item n r.passes in
      any_in (λ y. y == m) (map to_of (fan_at g.outs n)) k.item.to (in_map to_of (fan_at g.outs n) k.item ((is.outs n ln).all k.item o.0 from)) (eq-eqb k.item.to m o.1))
      (λ e.
      let r = any_back (λ y. y == m) (map to_of (fan_at g.outs n)) e in
      let k = in_map_back to_of (fan_at g.outs n) r.item r.within in
      let o = (is.outs n ln).sound k.item k.within in
      let to : k.item.to ≡ m = k.same ∙ eqb-true r.item m r.passes in
      any_in (λ y. y == n) (map from_of (fan_at g.ins m)) k.item.from (in_map from_of (fan_at g.ins m) k.item ((is.ins m lm).all k.item o.0 to)) (eq-eqb k.item.from n o.1))

-- a base, and what an ECO made of it
module _ (b g : Graphed) (touch : Touch) (made : IsEditOf b.stored touch g.stored) (num : IsNumbered b.stored) (num2 : IsNumbered g.stored)
    (was_is : IsGraph b) (is : IsGraph g) where
  abbrev d : Design
  d = b.stored.design

  abbrev d2 : Design
  d2 = g.stored.design

  pub was_linked : IsLinked d
  was_linked = base_linked b.stored touch g.stored made

  pub now_linked : IsLinked d2
  now_linked = edited_linked b.stored touch g.stored made

  -- a node of the base has the number of the one of its name
  pub base_node : (m : ℕ) (to h : Node) → node_at g.stored m ≡ Some to → node_named d (named to) ≡ Some h → node_at b.stored m ≡ Some h
  base_node m to h told e =
      let has = has_node g.stored num2 now_linked m to told in
      let n = named_node d (name_of to.pin) to.tran h e in
      let p = pin_told b.stored num was_linked h.pin n.within in
      let name : name_of h.pin ≡ name_of to.pin =
      same_is (name_of h.pin) (name_of to.pin) (found_passes (λ (q : Pin). bytes_eq (name_of q) (name_of to.pin)) (pins d) h.pin n.pin) in
      let same : p.0 ≡ has.pin =
      (numbers_kept b.stored touch g.stored made).pins.numbers (name_of to.pin) p.0 has.pin
      (subst (λ w. number_of b.stored.pins w ≡ Some p.0) name p.1.number) has.has.number in
      node_told b.stored h m (record { pin = p.0; has = p.1; number = has.number ∙ (λ k. node_number (sym same k) (sym n.turned k)) })

  pub was_told : (m : ℕ) (to h : Node) → node_at g.stored m ≡ Some to → node_named d (named to) ≡ Some h → back_before b.stored g.stored m ≡ back_row d h
  was_told m to h told e =
      ap (λ o. if is_some o then back_numbered b.stored m else empty_back) told
      ∙ ap (λ o. option_map_or (back_row d) o empty_back) (base_node m to h told e)

  pub now_told : (m : ℕ) (to : Node) → node_at g.stored m ≡ Some to → back_numbered g.stored m ≡ back_row d2 to
  now_told m to told = ap (λ o. option_map_or (back_row d2) o empty_back) told

  abbrev other : ℕ → Bool
  other m = not (same_back (back_before b.stored g.stored m) (back_numbered g.stored m))

  other_told : (m : ℕ) (to h : Node) → node_at g.stored m ≡ Some to → node_named d (named to) ≡ Some h → other m ≡ back_differs d d2 to
  other_told m to h told e =
      (λ k. not (same_back (was_told m to h told e k) (now_told m to told k)))
      ∙ sym (ap (λ o. option_map_or (λ before. not (same_back (back_row d before) (back_row d2 to))) o true) e)

  module _ (first : List ℕ) (firsts : AreFirst b.stored g.stored touch first) where
    abbrev c : Cone BackRow
    c = back_cone b.stored g first

    -- a node that is not affected is no backward one
    pub quiet : (n : ℕ) → n < node_bound g.stored → (node : Node) → node_at g.stored n ≡ Some node → affected c n ≡ false → is_backward d d2 touch node ≡ false
    quiet n low node told calm =
        five_none (is_seed d d2 touch node) (row_differs d d2 node) (leads_to_seed d d2 touch node) (list_any (back_differs d d2) (arcs_out d2 node)) (has_changed_clock d d2 touch node)
        one.0 one.1 two.1 (none_from (back_differs d d2) (arcs_out d2 node) each) three.1
      where
        parts : (list_any (λ y. y == n) first ≡ false) × (list_any other (map to_of (fan_at g.outs n)) ≡ false)
        parts = or_parts (list_any (λ y. y == n) first) (list_any other (map to_of (fan_at g.outs n))) calm

        no_first : is_first d d2 touch node ≡ false
        no_first = elim (cases_Bool (is_first d d2 touch node)) [
          | inl e ↦ absurd (true≢false (sym (firsts.all n (ap (λ o. option_map_or (is_first d d2 touch) o false) told ∙ e)) ∙ parts.0))
          | inr e ↦ e
        ]

        three : ((is_seed d d2 touch node || row_differs d d2 node || leads_to_seed d d2 touch node) ≡ false) × (has_changed_clock d d2 touch node ≡ false)
        three = either_none (is_seed d d2 touch node || row_differs d d2 node || leads_to_seed d d2 touch node) (has_changed_clock d d2 touch node) no_first

        two : ((is_seed d d2 touch node || row_differs d d2 node) ≡ false) × (leads_to_seed d d2 touch node ≡ false)
        two = either_none (is_seed d d2 touch node || row_differs d d2 node) (leads_to_seed d d2 touch node) three.0

        one : (is_seed d d2 touch node ≡ false) × (row_differs d d2 node ≡ false)
        one = either_none (is_seed d d2 touch node) (row_differs d d2 node) two.0

        leads : list_any (is_seed d d2 touch) (arcs_out d2 node) ≡ false
        leads = (either_none (list_any (is_seed d d2 touch) (arcs_out d2 node)) (list_any (λ to. is_seed d d2 touch to && led_to_before d node to) (nodes d2)) two.1).0

        each : (to : Node) → Contains (arcs_out d2 node) to → back_differs d d2 to ≡ false
        each to a =
            let o = onto g num2 now_linked is n low node told to a in
            let here = none_at other (map to_of (fan_at g.outs n)) o.arc.to parts.1 (in_map to_of (fan_at g.outs n) o.arc o.within) in
            let h = no_seed_calm b.stored touch g.stored made to o.stands.1.has.within (none_at (is_seed d d2 touch) (arcs_out d2 node) to leads a) in
            sym (other_told o.arc.to to h.node o.told h.told) ∙ here

    module _ (n : ℕ) (low : n < node_bound g.stored) (node : Node) (told : node_at g.stored n ≡ Some node) (calm : affected c n ≡ false) where
      own : HasNode g.stored node n
      own = has_node g.stored num2 now_linked n node told

      kept : back_before b.stored g.stored n ≡ back_numbered g.stored n
      kept =
          let none = quiet n low node told calm in
          let h =
          back_calm_of b.stored touch g.stored made (level b num was_linked was_is) (level g num2 now_linked is) (places_of b num was_linked was_is) (places_of g num2 now_linked is)
          was_is.tree is.tree node own.has.within none in
          was_told n node h.node told h.told
          ∙ back_row_kept b.stored touch g.stored made (level b num was_linked was_is) (level g num2 now_linked is) (places_of b num was_linked was_is) (places_of g num2 now_linked is)
          was_is.tree is.tree node own.has.within none
          ∙ sym (now_told n node told)

    pub stays : (n : ℕ) → n < node_bound g.stored → affected c n ≡ false → back_before b.stored g.stored n ≡ back_numbered g.stored n
    stays n low calm = by (node_at g.stored n) refl
      where
        by : (o : Option Node) → node_at g.stored n ≡ o → back_before b.stored g.stored n ≡ back_numbered g.stored n
        by None e =
            ap (λ o. if is_some o then back_numbered b.stored n else empty_back) e
            ∙ sym (ap (λ o. option_map_or (back_row d2) o empty_back) e)
        by (Some node) e = kept n low node e calm

    pub cone_laws : IsCone c
    cone_laws = record {
      low = λ n low. all_from (λ m. m < node_bound g.stored) (map to_of (fan_at g.outs n))
          (λ m a. let k = in_map_back to_of (fan_at g.outs n) m a in subst (λ x. x < node_bound g.stored) k.same (to_low g num2 now_linked is n low k.item k.within));
      rising = λ n low. all_from (λ m. top_level g m < top_level g n) (map to_of (fan_at g.outs n))
          (λ m a. let k = in_map_back to_of (fan_at g.outs n) m a in subst (λ x. top_level g x < top_level g n) k.same (falls g num2 now_linked is n low k.item k.within));
      calm = stays;
      still = λ n low quiet_here. ap not ((back_told (back_before b.stored g.stored n) (back_numbered g.stored n)).1 (stays n low quiet_here));
    }

    pub cone_outs : AreOuts c (λ m. map from_of (fan_at g.ins m))
    cone_outs = record {
      low = λ m low. all_from (λ n. n < node_bound g.stored) (map from_of (fan_at g.ins m))
          (λ n a. let k = in_map_back from_of (fan_at g.ins m) n a in subst (λ x. x < node_bound g.stored) k.same (from_low g num2 now_linked is m low k.item k.within));
      back = outs_turned g num2 now_linked is;
    }

    -- and one that is affected is one
    pub affected_backward : (n : ℕ) → n < node_bound g.stored → affected c n ≡ true → of_node g.stored (is_backward d d2 touch) n ≡ true
    affected_backward n low e = elim (or_cases (list_any (λ y. y == n) first) (list_any other (map to_of (fan_at g.outs n))) e) [
      | inl seed ↦ firsts.sound n seed
      | inr some ↦
          let r = any_back other (map to_of (fan_at g.outs n)) some in
          let k = in_map_back to_of (fan_at g.outs n) r.item r.within in
          let o = out_of g num2 now_linked is n low k.item k.within in
          let there = ap other k.same ∙ r.passes in
          ap (λ o. option_map_or (is_backward d d2 touch) o false) o.1.0
          ∙ fourth (is_seed d d2 touch o.0) (row_differs d d2 o.0) (leads_to_seed d d2 touch o.0) (list_any (back_differs d d2) (arcs_out d2 o.0)) (has_changed_clock d d2 touch o.0)
          (any_in (back_differs d d2) (arcs_out d2 o.0) o.1.1.0 o.1.1.1.1 (differs_there k.item.to o.1.1.0 o.1.1.1.0 there))
    ]
      where
        differs_there : (m : ℕ) (to : Node) → node_at g.stored m ≡ Some to → other m ≡ true → back_differs d d2 to ≡ true
        differs_there m to told some = by (node_named d (named to)) refl
          where
            by : (o : Option Node) → node_named d (named to) ≡ o → back_differs d d2 to ≡ true
            by None f = ap (λ o. option_map_or (λ before. not (same_back (back_row d before) (back_row d2 to))) o true) f
            by (Some h) f = sym (other_told m to h told f) ∙ some

    -- so these are the same
    pub affected_is : (n : ℕ) → n < node_bound g.stored → affected c n ≡ of_node g.stored (is_backward d d2 touch) n
    affected_is n low = elim (cases_Bool (affected c n)) [
      | inl e ↦ e ∙ sym (affected_backward n low e)
      | inr e ↦ e ∙ sym (none_here (node_at g.stored n) refl e)
    ]
      where
        none_here : (o : Option Node) → node_at g.stored n ≡ o → affected c n ≡ false → of_node g.stored (is_backward d d2 touch) n ≡ false
        none_here None told e = ap (λ o. option_map_or (is_backward d d2 touch) o false) told
        none_here (Some node) told e = ap (λ o. option_map_or (is_backward d d2 touch) o false) told ∙ quiet n low node told e
