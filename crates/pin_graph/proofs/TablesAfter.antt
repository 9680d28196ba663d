-- Marks, tree and places of a store that an ECO made of a base, where the ECO left the clock network.

use Rattle.std.proofs.Common.{◌≡◌, ℕ, zero, suc, ◌+◌, ◌-◌, ◌<◌, ◌≤◌, ◌==◌, Bool, true, false, cond, ◌&&◌, ◌||◌, List, [], ◌∷◌, ◌++◌, map, length, Option, None, Some, refl, sym, ap, subst, ◌∙◌, inl, inr, arith}
use Rattle.std.specs.Prelude.{Contains, slice_index, slice_index_or, is_some, count_by, nat_eq}
use Rattle.std.specs.List.{list_any, range_with_len}
use Rattle.std.proofs.lemmas.List.Sums.{sum_by_push}
use Rattle.std.proofs.lemmas.Bool.{cases_Bool, cases_lt, true≢false, eq-eqb}
use Rattle.netlist_store.specs.Numbering.{Stored}
use Rattle.levelizer.specs.Reaching.{has_mark}
use Rattle.pin_graph.specs.declared.arcs.GraphArc.{GraphArc}
use Rattle.pin_graph.specs.declared.pin_arcs.PinArc.{PinArc}
use Rattle.pin_graph.specs.declared.tables.Tables.{Tables}
use Rattle.pin_graph.specs.Graphs.{fan_at}
use Rattle.pin_graph.specs.Joins.{pin_arcs}
use Rattle.pin_graph.specs.Kept.{AreTables, AreNumberPlaces}
use Rattle.pin_graph.specs.Marks.{is_one}
use Rattle.pin_graph.specs.Networks.{is_comb_arc, clock_ports}
use Rattle.pin_graph.specs.NodeArcs.{marked}
use Rattle.pin_graph.specs.Nodes.{node_bound, pin_under}
use Rattle.pin_graph.specs.Renewed.{IsRenewed}
use Rattle.pin_graph.specs.Trees.{enters, AreApart, AreAllApart}
use Rattle.pin_graph.proofs.ArcLaws.{numbers_more}
use Rattle.timing_defs.proofs.Members.{in_filter, kept_in}

-- a mark of a table of flags
one_at : (xs : List ℕ) (pin : ℕ) → has_mark (map is_one xs) pin ≡ is_one (slice_index xs pin)
one_at [] pin = refl
one_at (x ∷ xs) zero = refl
one_at (x ∷ xs) (suc pin) = one_at xs pin

beyond : (xs : List Bool) (x : ℕ) → length xs ≤ x → slice_index_or xs x false ≡ false
beyond [] x low = refl
beyond (y ∷ ys) zero low = absurd (omega (arith, low))
beyond (y ∷ ys) (suc x) low = beyond ys x (omega (arith, low))

beyond_places : (xs : List (Option ℕ)) (x : ℕ) → length xs ≤ x → slice_index_or xs x None ≡ None
beyond_places [] x low = refl
beyond_places (y ∷ ys) zero low = absurd (omega (arith, low))
beyond_places (y ∷ ys) (suc x) low = beyond_places ys x (omega (arith, low))

both_false : (a b : Bool) → a ≡ false → b ≡ false → a ≡ b
both_false a b p q = p ∙ sym q

and_left : (a b : Bool) → (a && b) ≡ true → a ≡ true
and_left true b e = refl
and_left false b e = absurd (true≢false (sym e))

and_right : (a b : Bool) → (a && b) ≡ true → b ≡ true
and_right true b e = e
and_right false b e = absurd (true≢false (sym e))

count_push : (test : ℕ → Bool) (xs : List ℕ) (x : ℕ) → count_by test xs ≤ count_by test (xs ++ x ∷ [])
count_push test xs x = let e = sum_by_push (λ (y : ℕ). cond {A = ℕ} (test y) 1 0) xs x in omega (arith, e)

-- the marks of the network are those of both flags, also at numbers past all pins
pub marks_of : (s : Stored) (t : Tables) → AreTables s t → (pin : ℕ) → marked t.network pin ≡ (is_one (slice_index t.fed pin) && is_one (slice_index t.feeds pin))
marks_of s t base pin = elim (cases_lt pin (length s.pins)) [
  | inl l ↦ base.flags.clocked.each pin l ∙ (λ k. one_at t.fed pin k && one_at t.feeds pin k)
  | inr h ↦
      let a = base.flags.clocked.count in
      let b = base.flags.clocked.forth.count in
      beyond t.network pin (omega (arith, a, h))
      ∙ sym ((λ k. sym (one_at t.fed pin) k && is_one (slice_index t.feeds pin)) ∙ (λ k. beyond (map is_one t.fed) pin (omega (arith, b, h)) k && is_one (slice_index t.feeds pin)))
]

module _ (s s2 : Stored) (t t2 : Tables) (noted : ℕ → Bool) (base : AreTables s t) (new : IsRenewed s s2 t t2 noted) where
  -- a pin that is of the network is not noted
  pub unnoted : (pin : ℕ) → marked t2.network pin ≡ true → noted pin ≡ false
  unnoted pin m = elim (cases_Bool (noted pin)) [
    | inl e ↦ absurd (true≢false (sym (sym (new.marks pin) ∙ m) ∙ (new.off pin e).0))
    | inr e ↦ e
  ]

  -- the marks of the network are those of both flags
  pub marks_each : (pin : ℕ) → pin < length s2.pins → has_mark t2.network pin ≡ (has_mark (map is_one t2.fed) pin && has_mark (map is_one t2.feeds) pin)
  marks_each pin low = new.marks pin ∙ told ∙ sym (λ k. one_at t2.fed pin k && one_at t2.feeds pin k)
    where
      same : noted pin ≡ false → (is_one (slice_index t2.fed pin) && is_one (slice_index t2.feeds pin)) ≡ (is_one (slice_index t.fed pin) && is_one (slice_index t.feeds pin))
      same e = λ k. is_one (new.fed pin e k) && is_one (new.feeds pin e k)

      told : marked t.network pin ≡ (is_one (slice_index t2.fed pin) && is_one (slice_index t2.feeds pin))
      told = elim (cases_Bool (noted pin)) [
        | inl e ↦ let o = new.off pin e in o.0 ∙ sym o.1
        | inr e ↦ marks_of s t base pin ∙ sym (same e)
      ]

  -- an arc into a pin of the network is one of the base
  arc_before : (arc : PinArc) (pin : ℕ) → noted pin ≡ false → arc.to ≡ pin → Contains (pin_arcs s2) arc → Contains (pin_arcs s) arc
  arc_before arc pin e to c =
      kept_in (λ (a : PinArc). a.to == pin) (pin_arcs s) arc
      (subst (λ (xs : List PinArc). Contains xs arc) (new.arcs pin e) (in_filter (λ (a : PinArc). a.to == pin) (pin_arcs s2) arc c (eq-eqb arc.to pin to)))

  enters_same : (arc : PinArc) → enters t2.network arc ≡ enters t.network arc
  enters_same arc = λ k. (is_comb_arc arc && new.marks arc.from k) && new.marks arc.to k

  -- no pin is entered in different ways
  pub entered : AreAllApart t2.network (pin_arcs s2) []
  entered = record {
    sound = λ pin c. absurd (none c);
    all = λ pin a. base.entered.all pin (before pin a);
  }
    where
      none : {pin : ℕ} → Contains [] pin → ⊥
      none (i, low, is) = omega (arith, low)

      into : (pin : ℕ) → AreApart t2.network (pin_arcs s2) pin → noted pin ≡ false
      into pin a =
          let m : marked t2.network a.one.to ≡ true = and_right (is_comb_arc a.one && marked t2.network a.one.from) (marked t2.network a.one.to) a.one_enters in
          unnoted pin (subst (λ (x : ℕ). marked t2.network x ≡ true) a.one_to m)

      before : (pin : ℕ) → AreApart t2.network (pin_arcs s2) pin → AreApart t.network (pin_arcs s) pin
      before pin a = record {
        one = a.one;
        one_in = arc_before a.one pin (into pin a) a.one_to a.one_in;
        one_to = a.one_to;
        one_enters = sym (enters_same a.one) ∙ a.one_enters;
        two = a.two;
        two_in = arc_before a.two pin (into pin a) a.two_to a.two_in;
        two_to = a.two_to;
        two_enters = sym (enters_same a.two) ∙ a.two_enters;
        differ = a.differ;
      }

  place_before : (node p : ℕ) → slice_index_or t2.places node None ≡ Some p → slice_index_or t.places node None ≡ Some p
  place_before node p e = sym (new.places node) ∙ e

  bound : node_bound s ≤ node_bound s2
  bound = let l = new.grown in omega (arith, l)

  placed_low : (node p : ℕ) → slice_index_or t.places node None ≡ Some p → node < node_bound s
  placed_low node p e = elim (cases_lt node (node_bound s)) [
    | inl l ↦ l
    | inr h ↦
        let c = base.placed.count in
        let z : None ≡ Some p = sym (beyond_places t.places node (omega (arith, c, h))) ∙ e in
        absurd (cc)
  ]

  -- a placed node is of the network
  placed_marked : (node p : ℕ) → slice_index_or t.places node None ≡ Some p → marked t.network (pin_under node) ≡ true
  placed_marked node p e =
      and_left (marked t.network (pin_under node))
      (list_any (nat_eq (pin_under node)) (clock_ports s) || list_any (λ (arc : GraphArc). is_some (slice_index_or t.places arc.from None)) (fan_at t.ins node))
      (sym (base.placed.there node (placed_low node p e)) ∙ ap is_some e)

  -- places stay
  pub placed : AreNumberPlaces (node_bound s2) t2.network (clock_ports s2) (fan_at t2.ins) t2.places
  placed = record {
    count = new.place_count;
    there = λ node low. there node low;
    distinct = λ a b p e f. base.placed.distinct a b p (place_before a p e) (place_before b p f);
    below = λ node p e.
        (let under = base.placed.below node p (place_before node p e) in
        let more = count_longer (node_bound s) (node_bound s2) bound in
        omega (arith, under, more));
    rising = λ node p q arc low c e f.
        (let here = place_before node q f in
        let still = unnoted (pin_under node) (new.marks (pin_under node) ∙ placed_marked node q here) in
        base.placed.rising node p q arc (placed_low node q here) (subst (λ (xs : List GraphArc). Contains xs arc) (new.fans node (placed_low node q here) still) c) (place_before arc.from p e) here);
  }
    where
      test : ℕ → Bool
      test m = marked t.network (pin_under m)

      test2 : ℕ → Bool
      test2 m = marked t2.network (pin_under m)

      grown : (n k : ℕ) → count_by test (range_with_len 0 n) ≤ count_by test (range_with_len 0 (n + k))
      grown n zero = let same : n + 0 ≡ n = omega arith in subst (λ (m : ℕ). count_by test (range_with_len 0 n) ≤ count_by test (range_with_len 0 m)) (sym same) (omega arith)
      grown n (suc k) =
          let rest = grown n k in
          let one = count_push test (range_with_len 0 (n + k)) (n + k) in
          let more : count_by test (range_with_len 0 (n + k + 1)) ≡ count_by test (range_with_len 0 (n + k) ++ (n + k) ∷ []) = ap (count_by test) (numbers_more (n + k)) in
          let next : n + suc k ≡ n + k + 1 = omega arith in
          subst (λ (m : ℕ). count_by test (range_with_len 0 n) ≤ count_by test (range_with_len 0 m)) (sym next) (omega (arith, rest, one, more))

      count_longer : (n n2 : ℕ) → n ≤ n2 → count_by test (range_with_len 0 n) ≤ count_by test2 (range_with_len 0 n2)
      count_longer n n2 low =
          let long = grown n (n2 - n) in
          let same : n + (n2 - n) ≡ n2 = omega (arith, low) in
          let here : count_by test (range_with_len 0 n) ≤ count_by test (range_with_len 0 n2) = subst (λ (m : ℕ). count_by test (range_with_len 0 n) ≤ count_by test (range_with_len 0 m)) same long in
          let both : count_by test2 (range_with_len 0 n2) ≡ count_by test (range_with_len 0 n2) = (λ k. count_by (λ m. new.marks (pin_under m) k) (range_with_len 0 n2)) in
          omega (arith, here, both)

      there : (node : ℕ) → node < node_bound s2 → is_some (slice_index_or t2.places node None)
          ≡ (marked t2.network (pin_under node) && (list_any (nat_eq (pin_under node)) (clock_ports s2) || list_any (λ (arc : GraphArc). is_some (slice_index_or t2.places arc.from None)) (fan_at t2.ins node)))
      there node low = ap is_some (new.places node) ∙ told ∙ sym same
        where
          ports : ℕ → Bool
          ports m = list_any (nat_eq (pin_under m)) (clock_ports s)

          placed_before : GraphArc → Bool
          placed_before arc = is_some (slice_index_or t.places arc.from None)

          rest2 : Bool
          rest2 = list_any (nat_eq (pin_under node)) (clock_ports s2) || list_any (λ (arc : GraphArc). is_some (slice_index_or t2.places arc.from None)) (fan_at t2.ins node)

          same : (marked t2.network (pin_under node) && rest2) ≡ (marked t.network (pin_under node) && rest2)
          same = λ k. new.marks (pin_under node) k && rest2

          off : marked t.network (pin_under node) ≡ false → slice_index_or t.places node None ≡ None → is_some (slice_index_or t.places node None) ≡ (marked t.network (pin_under node) && rest2)
          off m none = ap is_some none ∙ sym (λ k. m k && rest2)

          unplaced : marked t.network (pin_under node) ≡ false → slice_index_or t.places node None ≡ None
          unplaced m = by (slice_index_or t.places node None) refl
            where
              by : (o : Option ℕ) → slice_index_or t.places node None ≡ o → slice_index_or t.places node None ≡ None
              by None e = e
              by (Some p) e = absurd (true≢false (sym (placed_marked node p e) ∙ m))

          told : is_some (slice_index_or t.places node None) ≡ (marked t.network (pin_under node) && rest2)
          told = elim (cases_Bool (noted (pin_under node))) [
            | inl e ↦ let m = (new.off (pin_under node) e).0 in off m (unplaced m)
            | inr e ↦ elim (cases_lt node (node_bound s)) [
              | inr h ↦
                  let c = base.flags.clocked.count in
                  let m = beyond t.network (pin_under node) (omega (arith, c, h)) in
                  off m (unplaced m)
              | inl l ↦
                  base.placed.there node l
                  ∙ sym (λ k. marked t.network (pin_under node) && (list_any (nat_eq (pin_under node)) (new.ports k) || list_any (λ (arc : GraphArc). is_some (new.places arc.from k)) (new.fans node l e k)))
            ]
          ]
