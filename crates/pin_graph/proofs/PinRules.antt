-- The rules by which links give pins their levels and flags: what a write leaves, what is settled, and what an ECO
-- leaves settled.

use Rattle.std.proofs.Common.{◌≡◌, ℕ, zero, suc, ◌<◌, ◌≤◌, ◌==◌, Bool, true, false, List, [], ◌∷◌, ◌++◌, map, filter, length, Option, None, Some, refl, sym, ap, subst, ◌∙◌, inl, inr, arith}
use Rattle.std.specs.Prelude.{nat_eq, ◌||◌, slice_index, slice_set, All, Contains}
use Rattle.std.specs.List.{list_any, range_with_len}
use Rattle.std.specs.Option.{option_to_list}
use Rattle.std.proofs.lemmas.Bool.{cases_Bool, cases_lt, eqb-true, false≢true}
use Rattle.std.proofs.lemmas.List.{length-map, get_or_past, set_past}
use Rattle.std.proofs.lemmas.List.Elements.{All-from_get_or, All-contains, Contains-append_right, Contains-append_cases}
use Rattle.timing_defs.specs.NetChecks.{net_fault}
use Rattle.netlist_store.specs.Linked.{IsLinked}
use Rattle.netlist_store.specs.Numbering.{Stored, IsNumbered}
use Rattle.levelizer.specs.Levels.{AreLevels}
use Rattle.levelizer.specs.Reaching.{has_mark, AreReached}
use Rattle.settling.specs.Settled.{AreLow, IsRule, IsSettled}
use Rattle.pin_graph.specs.declared.pin_arcs.PinArc.{PinArc}
use Rattle.pin_graph.specs.Joins.{before, pin_arcs, link_of, net_links, pin_links}
use Rattle.pin_graph.specs.Networks.{is_comb_arc, turned, network_links, clock_ports, clock_pins}
use Rattle.pin_graph.specs.Pulls.{arcs_into, arcs_from, from_pin, to_pin, pins_before, is_driven_by, sinks_of, pins_behind, network_tails, network_heads}
use Rattle.pin_graph.specs.Marks.{flag_of, is_one}
use Rattle.pin_graph.specs.PinValues.{level_over, pin_level, is_set, fed_flag, feeds_flag, IsLonger}
use Rattle.timing_defs.proofs.Members.{in_cases, none_in, in_map, in_map_back, passes_in, kept_in, any_back}
use Rattle.pin_graph.proofs.JoinLaws.{net_arc_back}
use Rattle.pin_graph.proofs.LoopLaws.{within}
use Rattle.pin_graph.proofs.NetworkLaws.{ports_within, pins_within}
use Rattle.pin_graph.proofs.PullLaws.{driven_so}
use Rattle.pin_graph.proofs.LinkEnds.{fan_in_is, led_from, led_back, behind_before, heads_tails}
use Rattle.pin_graph.proofs.RuleLists.{levels_alike, any_alike, written_beside, any_same, all_from, nothing_in, level_below}

option_in : (o : Option ℕ) (x : ℕ) → Contains (option_to_list o) x → o ≡ Some x
option_in None x c = absurd (none_in x c)
option_in (Some y) x c = elim (in_cases y [] x c) [ inl e ↦ ap Some e | inr d ↦ absurd (none_in x d) ]

pub flag_is : (b : Bool) → is_one (flag_of b) ≡ b
flag_is true = refl
flag_is false = refl

flag_low : (b : Bool) → flag_of b ≤ 1
flag_low true = omega arith
flag_low false = omega arith

bit_is : (v : ℕ) → v ≤ 1 → v ≡ flag_of (is_one v)
bit_is zero low = refl
bit_is (suc zero) low = refl
bit_is (suc (suc v)) low = absurd (omega arith)

-- marks as numbers
mark_is : (t : List ℕ) (pin : ℕ) → has_mark (map is_one t) pin ≡ is_set t pin
mark_is [] pin = refl
mark_is (v ∷ t) zero = refl
mark_is (v ∷ t) (suc pin) = mark_is t pin

marks_are : (t xs : List ℕ) → list_any (has_mark (map is_one t)) xs ≡ list_any (is_set t) xs
marks_are t [] = refl
marks_are t (x ∷ xs) = rw (mark_is t x, marks_are t xs) refl

-- no number of a list stands past all
none_past : (n pin : ℕ) (xs : List ℕ) → All (λ x. x < n) xs → n ≤ pin → list_any (nat_eq pin) xs ≡ false
none_past n pin xs each high = elim (cases_Bool (list_any (nat_eq pin) xs)) [
  | inl there ↦
      let r = any_back (nat_eq pin) xs there in
      let same = eqb-true pin r.item r.passes in
      let low : r.item < n = All-contains (λ x. x < n) xs r.item each r.within in
      absurd (omega arith)
  | inr none ↦ none
]

no_more : (b : Bool) → b ≡ false → flag_of (b || false) ≡ 0
no_more true e = absurd (false≢true (sym e))
no_more false e = refl

module _ (s : Stored) (num : IsNumbered s) (linked : IsLinked s.design) where
  -- the ends of links are below the number of pins
  arc_low : (a : PinArc) → Contains (pin_arcs s) a → (a.from < length s.pins) × (a.to < length s.pins)
  arc_low a c = within s num linked (link_of a) (Contains-append_right (net_links s) (map link_of (pin_arcs s)) (link_of a) (in_map link_of (pin_arcs s) a c))

  net_low : (from to : ℕ) → before s to ≡ Some from → (from < length s.pins) × (to < length s.pins)
  net_low from to e = let a = net_arc_back s num linked from to e in (a.source_number.below, a.sink_number.below)

  into_low : (arcs : List PinArc) (pin x : ℕ) → ((a : PinArc) → Contains arcs a → Contains (arcs_into s pin) a)
      → Contains (option_to_list (before s pin) ++ map from_pin arcs) x → (pin < length s.pins) × (x < length s.pins)
  into_low arcs pin x all c = elim (Contains-append_cases (option_to_list (before s pin)) (map from_pin arcs) x c) [
    | inl h ↦ let ends = net_low x pin (option_in (before s pin) x h) in (ends.1, ends.0)
    | inr h ↦
        let m = in_map_back from_pin arcs x h in
        let d = all m.item m.within in
        let ends = arc_low m.item (kept_in (λ arc. arc.to == pin) (pin_arcs s) m.item d) in
        let to = eqb-true m.item.to pin (passes_in (λ arc. arc.to == pin) (pin_arcs s) m.item d) in
        (subst (λ (k : ℕ). k < length s.pins) to ends.1, subst (λ (k : ℕ). k < length s.pins) m.same ends.0)
  ]

  out_low : (arcs : List PinArc) (pin x : ℕ) → ((a : PinArc) → Contains arcs a → Contains (arcs_from s pin) a)
      → Contains (sinks_of s pin ++ map to_pin arcs) x → (pin < length s.pins) × (x < length s.pins)
  out_low arcs pin x all c = elim (Contains-append_cases (sinks_of s pin) (map to_pin arcs) x c) [
    | inl h ↦ net_low pin x (driven_so s pin x (passes_in (is_driven_by s pin) (range_with_len 0 (length s.pins)) x h))
    | inr h ↦
        let m = in_map_back to_pin arcs x h in
        let d = all m.item m.within in
        let ends = arc_low m.item (kept_in (λ arc. arc.from == pin) (pin_arcs s) m.item d) in
        let from = eqb-true m.item.from pin (passes_in (λ arc. arc.from == pin) (pin_arcs s) m.item d) in
        (subst (λ (k : ℕ). k < length s.pins) from ends.0, subst (λ (k : ℕ). k < length s.pins) m.same ends.1)
  ]

  pub before_low : (pin x : ℕ) → Contains (pins_before s pin) x → (pin < length s.pins) × (x < length s.pins)
  before_low pin x c = into_low (arcs_into s pin) pin x (λ a h. h) c

  pub tails_low : (pin x : ℕ) → Contains (network_tails s pin) x → (pin < length s.pins) × (x < length s.pins)
  tails_low pin x c = into_low (filter is_comb_arc (arcs_into s pin)) pin x (λ a h. kept_in is_comb_arc (arcs_into s pin) a h) c

  pub behind_low : (pin x : ℕ) → Contains (pins_behind s pin) x → (pin < length s.pins) × (x < length s.pins)
  behind_low pin x c = out_low (arcs_from s pin) pin x (λ a h. h) c

  pub heads_low : (pin x : ℕ) → Contains (network_heads s pin) x → (pin < length s.pins) × (x < length s.pins)
  heads_low pin x c = out_low (filter is_comb_arc (arcs_from s pin)) pin x (λ a h. kept_in is_comb_arc (arcs_from s pin) a h) c

  -- a list with these members is of numbers of pins
  all_low : (xs ys : List ℕ) → ((x : ℕ) → Contains ys x → x < length s.pins) → ((q : ℕ) → list_any (nat_eq q) xs ≡ list_any (nat_eq q) ys) → All (λ a. a < length s.pins) xs
  all_low xs ys low same = all_from (length s.pins) xs (λ q e.
      let r = any_back (nat_eq q) ys (sym (same q) ∙ e) in
      subst (λ (k : ℕ). k < length s.pins) (sym (eqb-true q r.item r.passes)) (low r.item r.within))

  pub befores_within : (pin : ℕ) (xs : List ℕ) → xs ≡ pins_before s pin → All (λ a. a < length s.pins) xs
  befores_within pin xs is = all_low xs (pins_before s pin) (λ x c. (before_low pin x c).1) (λ q. ap (list_any (nat_eq q)) is)

  pub tails_within : (pin : ℕ) (xs : List ℕ) → xs ≡ network_tails s pin → All (λ a. a < length s.pins) xs
  tails_within pin xs is = all_low xs (network_tails s pin) (λ x c. (tails_low pin x c).1) (λ q. ap (list_any (nat_eq q)) is)

  pub behind_within : (pin : ℕ) (xs : List ℕ) → ((q : ℕ) → list_any (nat_eq q) xs ≡ list_any (nat_eq q) (pins_behind s pin)) → All (λ a. a < length s.pins) xs
  behind_within pin xs same = all_low xs (pins_behind s pin) (λ x c. (behind_low pin x c).1) same

  pub heads_within : (pin : ℕ) (xs : List ℕ) → ((q : ℕ) → list_any (nat_eq q) xs ≡ list_any (nat_eq q) (network_heads s pin)) → All (λ a. a < length s.pins) xs
  heads_within pin xs same = all_low xs (network_heads s pin) (λ x c. (heads_low pin x c).1) same

  -- a write changes what the rules give for those behind it alone
  pub levels_rule : IsRule (length s.pins) (pin_level s) (pins_behind s)
  levels_rule = record {
    local = λ t x v a count low none.
        levels_alike (slice_set t x v) t (pins_before s a) (written_beside t x v (pins_before s a) (sym (behind_before s x a low) ∙ none));
  }

  pub fed_rule : IsRule (length s.pins) (fed_flag s) (network_heads s)
  fed_rule = record {
    local = λ t x v a count low none.
        ap (λ b. flag_of (list_any (nat_eq a) (clock_ports s) || b))
        (any_alike (slice_set t x v) t (network_tails s a) (written_beside t x v (network_tails s a) (sym (heads_tails s x a low) ∙ none)));
  }

  pub feeds_rule : IsRule (length s.pins) (feeds_flag s) (network_tails s)
  feeds_rule = record {
    local = λ t x v a count low none.
        elim (cases_lt x (length s.pins)) [
          | inl under ↦
              ap (λ b. flag_of (list_any (nat_eq a) (clock_pins s) || b))
              (any_alike (slice_set t x v) t (network_heads s a) (written_beside t x v (network_heads s a) (heads_tails s a x under ∙ none)))
          | inr past ↦ ap (λ (u : List ℕ). feeds_flag s u a) (set_past t x v (omega arith))
        ];
  }

  -- what is settled at all numbers
  pub levels_settled : (t : List ℕ) → IsSettled (length s.pins) (pin_level s) t (λ a. false) → AreLevels (length s.pins) (pin_links s) t
  levels_settled t settled = record {
    count = settled.count;
    level = λ pin low. settled.each pin low refl ∙ ap (level_over t) (sym (fan_in_is s pin low));
  }

  pub fed_settled : (t : List ℕ) → IsSettled (length s.pins) (fed_flag s) t (λ a. false) → AreReached (length s.pins) (network_links s) (clock_ports s) (map is_one t)
  fed_settled t settled = record {
    count = length-map t is_one ∙ settled.count;
    each = λ pin low.
        mark_is t pin ∙ ap is_one (settled.each pin low refl) ∙ flag_is (list_any (nat_eq pin) (clock_ports s) || list_any (is_set t) (network_tails s pin))
        ∙ ap (λ b. list_any (nat_eq pin) (clock_ports s) || b) (sym (led_from s (map is_one t) pin low ∙ marks_are t (network_tails s pin)));
  }

  pub feeds_settled : (t : List ℕ) → IsSettled (length s.pins) (feeds_flag s) t (λ a. false)
      → AreReached (length s.pins) (map turned (network_links s)) (clock_pins s) (map is_one t)
  feeds_settled t settled = record {
    count = length-map t is_one ∙ settled.count;
    each = λ pin low.
        mark_is t pin ∙ ap is_one (settled.each pin low refl) ∙ flag_is (list_any (nat_eq pin) (clock_pins s) || list_any (is_set t) (network_heads s pin))
        ∙ ap (λ b. list_any (nat_eq pin) (clock_pins s) || b) (sym (led_back s (map is_one t) pin ∙ marks_are t (network_heads s pin)));
  }

  flags_low : (t : List ℕ) (value : ℕ → Bool) → length t ≡ length s.pins → ((a : ℕ) → a < length s.pins → slice_index t a ≡ flag_of (value a))
      → (pin : ℕ) → slice_index t pin ≤ 1
  flags_low t value count each pin = elim (cases_lt pin (length s.pins)) [
    | inl low ↦ let is = each pin low in let few = flag_low (value pin) in omega (arith, is, few)
    | inr past ↦ let none : slice_index t pin ≡ 0 = get_or_past t pin 0 (omega arith) in omega (arith, none)
  ]

  pub fed_low : (t : List ℕ) → IsSettled (length s.pins) (fed_flag s) t (λ a. false) → (pin : ℕ) → slice_index t pin ≤ 1
  fed_low t settled = flags_low t (λ a. list_any (nat_eq a) (clock_ports s) || list_any (is_set t) (network_tails s a)) settled.count (λ a low. settled.each a low refl)

  pub feeds_low : (t : List ℕ) → IsSettled (length s.pins) (feeds_flag s) t (λ a. false) → (pin : ℕ) → slice_index t pin ≤ 1
  feeds_low t settled = flags_low t (λ a. list_any (nat_eq a) (clock_pins s) || list_any (is_set t) (network_heads s a)) settled.count (λ a low. settled.each a low refl)

  -- a graph's levels and flags are those that the rules give, also at numbers past all pins
  pub levels_are : (t : List ℕ) → AreLevels (length s.pins) (pin_links s) t → (pin : ℕ) → slice_index t pin ≡ pin_level s t pin
  levels_are t is pin = elim (cases_lt pin (length s.pins)) [
    | inl low ↦ is.level pin low ∙ ap (level_over t) (fan_in_is s pin low)
    | inr past ↦
        let long = is.count in
        let none : pins_before s pin ≡ [] = nothing_in (pins_before s pin) (λ x c. let low = (before_low pin x c).0 in omega (arith, low, past)) in
        let zero_is : slice_index t pin ≡ 0 = get_or_past t pin 0 (omega arith) in
        zero_is ∙ sym (ap (level_over t) none)
  ]

  module _ (fault : net_fault s.design ≡ None) where
    pub fed_are : (t : List ℕ) → AreReached (length s.pins) (network_links s) (clock_ports s) (map is_one t) → ((pin : ℕ) → slice_index t pin ≤ 1)
        → (pin : ℕ) → slice_index t pin ≡ fed_flag s t pin
    fed_are t is few pin = elim (cases_lt pin (length s.pins)) [
      | inl low ↦
          bit_is (slice_index t pin) (few pin)
          ∙ ap flag_of (sym (mark_is t pin) ∙ is.each pin low
          ∙ ap (λ b. list_any (nat_eq pin) (clock_ports s) || b) (led_from s (map is_one t) pin low ∙ marks_are t (network_tails s pin)))
      | inr past ↦
          let long = sym (length-map t is_one) ∙ is.count in
          let none : network_tails s pin ≡ [] = nothing_in (network_tails s pin) (λ x c. let low = (tails_low pin x c).0 in omega (arith, low, past)) in
          let zero_is : slice_index t pin ≡ 0 = get_or_past t pin 0 (omega (arith, long, past)) in
          zero_is ∙ sym (ap (λ (xs : List ℕ). flag_of (list_any (nat_eq pin) (clock_ports s) || list_any (is_set t) xs)) none
          ∙ no_more (list_any (nat_eq pin) (clock_ports s)) (none_past (length s.pins) pin (clock_ports s) (ports_within s num linked fault) past))
    ]

    pub feeds_are : (t : List ℕ) → AreReached (length s.pins) (map turned (network_links s)) (clock_pins s) (map is_one t) → ((pin : ℕ) → slice_index t pin ≤ 1)
        → (pin : ℕ) → slice_index t pin ≡ feeds_flag s t pin
    feeds_are t is few pin = elim (cases_lt pin (length s.pins)) [
      | inl low ↦
          bit_is (slice_index t pin) (few pin)
          ∙ ap flag_of (sym (mark_is t pin) ∙ is.each pin low
          ∙ ap (λ b. list_any (nat_eq pin) (clock_pins s) || b) (led_back s (map is_one t) pin ∙ marks_are t (network_heads s pin)))
      | inr past ↦
          let long = sym (length-map t is_one) ∙ is.count in
          let none : network_heads s pin ≡ [] = nothing_in (network_heads s pin) (λ x c. let low = (heads_low pin x c).0 in omega (arith, low, past)) in
          let zero_is : slice_index t pin ≡ 0 = get_or_past t pin 0 (omega (arith, long, past)) in
          zero_is ∙ sym (ap (λ (xs : List ℕ). flag_of (list_any (nat_eq pin) (clock_pins s) || list_any (is_set t) xs)) none
          ∙ no_more (list_any (nat_eq pin) (clock_pins s)) (none_past (length s.pins) pin (clock_pins s) (pins_within s num linked fault) past))
    ]

    -- Another store's pins, at which links and marks are the same but at some: a table that reads as this one's is
    -- settled there but at those.
    module _ (s2 : Stored) (base t : List ℕ) (longer : IsLonger (length s2.pins) base t) (but : ℕ → Bool) where
      low_table : ((pin : ℕ) → slice_index base pin < 4294967295) → AreLow t
      low_table each = All-from_get_or (λ v. v < 4294967295) t 0 (λ i low. subst (λ (v : ℕ). v < 4294967295) (sym (longer.same i)) (each i))

      pub levels_kept : AreLevels (length s.pins) (pin_links s) base → length s.pins < 4294967296
          → ((pin : ℕ) → pin < length s2.pins → but pin ≡ false → pins_before s2 pin ≡ pins_before s pin)
          → IsSettled (length s2.pins) (pin_level s2) t but
      levels_kept is fits same = record {
        count = longer.count;
        low = low_table (λ pin. elim (cases_lt pin (length s.pins)) [
          | inl low ↦
              let under = level_below (length s.pins) base (pins_before s) (λ a l. levels_are base is a) (λ a l x c. (before_low a x c).1) pin low in
              omega (arith, under, fits)
          | inr past ↦
              let long = is.count in
              let none : slice_index base pin ≡ 0 = get_or_past base pin 0 (omega (arith, long, past)) in
              omega (arith, none)
        ]);
        each = λ pin low out.
            longer.same pin ∙ levels_are base is pin ∙ sym (levels_alike t base (pins_before s pin) (λ x c. longer.same x))
            ∙ ap (level_over t) (sym (same pin low out));
      }

      bits_low : ((pin : ℕ) → slice_index base pin ≤ 1) → AreLow t
      bits_low few = low_table (λ pin. let one = few pin in omega (arith, one))

      pub fed_kept : AreReached (length s.pins) (network_links s) (clock_ports s) (map is_one base) → ((pin : ℕ) → slice_index base pin ≤ 1)
          → clock_ports s2 ≡ clock_ports s
          → ((pin : ℕ) → pin < length s2.pins → but pin ≡ false → network_tails s2 pin ≡ network_tails s pin)
          → IsSettled (length s2.pins) (fed_flag s2) t but
      fed_kept is few ports same = record {
        count = longer.count;
        low = bits_low few;
        each = λ pin low out.
            longer.same pin ∙ fed_are base is few pin
            ∙ ap (λ b. flag_of (list_any (nat_eq pin) (clock_ports s) || b)) (sym (any_alike t base (network_tails s pin) (λ x c. longer.same x)))
            ∙ sym (λ k. flag_of (list_any (nat_eq pin) (ports k) || list_any (is_set t) (same pin low out k)));
      }

      pub feeds_kept : AreReached (length s.pins) (map turned (network_links s)) (clock_pins s) (map is_one base) → ((pin : ℕ) → slice_index base pin ≤ 1)
          → ((pin : ℕ) → pin < length s2.pins → but pin ≡ false → list_any (nat_eq pin) (clock_pins s2) ≡ list_any (nat_eq pin) (clock_pins s))
          → ((pin : ℕ) → pin < length s2.pins → but pin ≡ false → (q : ℕ) → list_any (nat_eq q) (network_heads s2 pin) ≡ list_any (nat_eq q) (network_heads s pin))
          → IsSettled (length s2.pins) (feeds_flag s2) t but
      feeds_kept is few clocks same = record {
        count = longer.count;
        low = bits_low few;
        each = λ pin low out.
            longer.same pin ∙ feeds_are base is few pin
            ∙ ap (λ b. flag_of (list_any (nat_eq pin) (clock_pins s) || b)) (sym (any_alike t base (network_heads s pin) (λ x c. longer.same x)))
            ∙ sym (λ k. flag_of (clocks pin low out k || any_same (is_set t) (network_heads s2 pin) (network_heads s pin) (same pin low out) k));
      }
