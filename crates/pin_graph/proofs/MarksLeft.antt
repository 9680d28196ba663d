-- The clock network by numbers is left by an ECO where no pin at which links changed is of it before or after.

use Rattle.std.proofs.Common.{◌≡◌, ℕ, ◌+◌, ◌<◌, true, false, not, List, [], ◌∷◌, map, filter, length, refl, sym, ap, subst, ◌∙◌, inl, inr, arith}
use Rattle.std.specs.Prelude.{nat_eq, ◌&&◌, ◌||◌, slice_index, Contains}
use Rattle.std.specs.List.{list_any, list_all}
use Rattle.std.specs.Option.{option_to_list}
use Rattle.std.proofs.lemmas.Bool.{cases_lt, and_parts, not-true, or_cases, eqb-true, eq-eqb}
use Rattle.std.proofs.lemmas.List.{get_or_past}
use Rattle.std.proofs.lemmas.List.Elements.{Contains-append_left, Contains-append_right, Contains-append_cases}
use Rattle.timing_defs.specs.Touches.{Touch}
use Rattle.netlist_store.specs.Applying.{IsEditOf}
use Rattle.netlist_store.specs.Linked.{IsLinked}
use Rattle.netlist_store.specs.Numbering.{Stored, is_number, IsNumbered}
use Rattle.eco_laws.proofs.EditOf.{base_linked, edited_linked}
use Rattle.pin_graph.specs.declared.tables.Tables.{Tables}
use Rattle.pin_graph.specs.Graphs.{Graphed}
use Rattle.pin_graph.specs.Joins.{before}
use Rattle.pin_graph.specs.Kept.{AreTables, IsKeptGraph}
use Rattle.pin_graph.specs.Networks.{is_comb_arc, clock_ports, clock_pins}
use Rattle.pin_graph.specs.NodeArcs.{marked}
use Rattle.pin_graph.specs.Pulls.{arcs_into, from_pin, pins_before, network_tails, network_heads, is_gone, is_left}
use Rattle.pin_graph.specs.PinValues.{level_over, is_set}
use Rattle.pin_graph.specs.Marks.{is_one}
use Rattle.pin_graph.specs.Seeds.{is_touched_at, is_unmarked}
use Rattle.timing_defs.proofs.Members.{none_in, in_cases, in_map, in_map_back, kept_in, any_in, any_back, all_in}
use Rattle.pin_graph.proofs.LinkEnds.{heads_tails}
use Rattle.pin_graph.proofs.LinksLeft.{left_is, ports_left, clock_same, tails_same, heads_same}
use Rattle.pin_graph.proofs.MarkWalks.{Walks, AreWalks, AreLeft, between_same}
use Rattle.pin_graph.proofs.PinRules.{flag_is, before_low, tails_low, heads_low, levels_are, fed_are, feeds_are}
use Rattle.pin_graph.proofs.RuleLists.{level_below}
use Rattle.pin_graph.proofs.TablesAfter.{marks_of}

-- a level above those of a list
level_above : (t xs : List ℕ) (x : ℕ) → Contains xs x → slice_index t x < level_over t xs
level_above t [] x c = absurd (none_in x c)
level_above t (y ∷ xs) x c = elim (in_cases y xs x c) [
  | inl e ↦ let same = ap (slice_index t) e in omega (arith, same)
  | inr d ↦ let rest = level_above t xs x d in omega (arith, rest)
]

-- links along which clocks go are links
tail_before : (s : Stored) (pin x : ℕ) → Contains (network_tails s pin) x → Contains (pins_before s pin) x
tail_before s pin x c = elim (Contains-append_cases (option_to_list (before s pin)) (map from_pin (filter is_comb_arc (arcs_into s pin))) x c) [
  | inl h ↦ Contains-append_left (option_to_list (before s pin)) (map from_pin (arcs_into s pin)) x h
  | inr h ↦
      let m = in_map_back from_pin (filter is_comb_arc (arcs_into s pin)) x h in
      Contains-append_right (option_to_list (before s pin)) (map from_pin (arcs_into s pin)) x
      (subst (λ (q : ℕ). Contains (map from_pin (arcs_into s pin)) q) m.same
      (in_map from_pin (arcs_into s pin) m.item (kept_in is_comb_arc (arcs_into s pin) m.item m.within)))
]

-- what stands in one list stands in another
member_as : (a b : ℕ) (xs ys : List ℕ) → list_any (nat_eq a) xs ≡ list_any (nat_eq b) ys → Contains ys b → Contains xs a
member_as a b xs ys same c =
    let r = any_back (nat_eq a) xs (same ∙ any_in (nat_eq b) ys b c (eq-eqb b b refl)) in
    subst (λ (q : ℕ). Contains xs q) (sym (eqb-true a r.item r.passes)) r.within

-- the links and flags of a store's pins
abbrev walks_of : Stored → Tables → Walks
walks_of s t =
    record {
      tails = network_tails s;
      heads = network_heads s;
      first = λ pin. list_any (nat_eq pin) (clock_ports s);
      last = λ pin. list_any (nat_eq pin) (clock_pins s);
      forth = is_set t.fed;
      back = is_set t.feeds;
      level = slice_index t.pin_levels;
      top = length s.pins + 1;
    }

module _ (s : Stored) (t : Tables) (num : IsNumbered s) (linked : IsLinked s.design) (are : AreTables s t) where
  level_low : (pin : ℕ) → slice_index t.pin_levels pin < length s.pins + 1
  level_low pin = elim (cases_lt pin (length s.pins)) [
    | inl low ↦
        let under = level_below (length s.pins) t.pin_levels (pins_before s) (λ a l. levels_are s num linked t.pin_levels are.rising a)
        (λ a l x c. (before_low s num linked a x c).1) pin low in
        omega (arith, under)
    | inr past ↦
        let long = are.rising.count in
        let none : slice_index t.pin_levels pin ≡ 0 = get_or_past t.pin_levels pin 0 (omega (arith, long, past)) in
        omega (arith, none)
  ]

  walks_are : AreWalks (walks_of s t)
  walks_are = record {
    forth_is = λ pin.
        ap is_one (fed_are s num linked are.fault t.fed are.flags.clocked.forth are.flags.fed pin)
        ∙ flag_is (list_any (nat_eq pin) (clock_ports s) || list_any (is_set t.fed) (network_tails s pin));
    back_is = λ pin.
        ap is_one (feeds_are s num linked are.fault t.feeds are.flags.clocked.back are.flags.feeds pin)
        ∙ flag_is (list_any (nat_eq pin) (clock_pins s) || list_any (is_set t.feeds) (network_heads s pin));
    heads_of = λ pin from c.
        member_as pin from (network_heads s from) (network_tails s pin) (heads_tails s from pin (tails_low s num linked pin from c).0) c;
    tails_of = λ pin to c.
        member_as pin to (network_tails s to) (network_heads s pin) (sym (heads_tails s pin to (heads_low s num linked pin to c).1)) c;
    rising = λ pin from c.
        subst (λ (k : ℕ). slice_index t.pin_levels from < k) (sym (levels_are s num linked t.pin_levels are.rising pin))
        (level_above t.pin_levels (pins_before s pin) from (tail_before s pin from c));
    low = λ pin. level_low pin;
  }

-- of the tables of two stores
module _ (s s2 : Stored) (touch : Touch) (t t2 : Tables) (made : IsEditOf s touch s2) (num : IsNumbered s) (num2 : IsNumbered s2) (are : AreTables s t) (are2 : AreTables s2 t2)
    (off : (pin : ℕ) → is_left s s2 touch pin ≡ false → (marked t.network pin ≡ false) × (marked t2.network pin ≡ false)) where
  walks_left : AreLeft (walks_of s t) (walks_of s2 t2) (is_left s s2 touch)
  walks_left = record {
    firsts = λ pin. ap (list_any (nat_eq pin)) (ports_left s touch s2 made num num2);
    lasts = λ pin left. clock_same s touch s2 made num num2 pin left;
    tails = λ pin left. tails_same s touch s2 made num num2 pin left;
    heads = λ pin left q. heads_same s touch s2 made num num2 pin left q;
  }

  tables_left : (pin : ℕ) → marked t2.network pin ≡ marked t.network pin
  tables_left pin =
      marks_of s2 t2 are2 pin
      ∙ between_same (walks_of s t) (walks_of s2 t2) (walks_are s t num (base_linked s touch s2 made) are) (walks_are s2 t2 num2 (edited_linked s touch s2 made) are2)
      (is_left s s2 touch) walks_left (λ p e. (sym (marks_of s t are p) ∙ (off p e).0, sym (marks_of s2 t2 are2 p) ∙ (off p e).1)) pin
      ∙ sym (marks_of s t are pin)

-- of two graphs
module _ (g g2 : Graphed) (touch : Touch) (made : IsEditOf g.stored touch g2.stored) (num : IsNumbered g.stored) (num2 : IsNumbered g2.stored) (kept : IsKeptGraph g) (kept2 : IsKeptGraph g2) where
  held : (pin : ℕ) → marked g.network pin ≡ marked kept.tables.network pin
  held pin = ap (λ (h : Graphed). marked h.network pin) kept.same

  held2 : (pin : ℕ) → marked g2.network pin ≡ marked kept2.tables.network pin
  held2 pin = ap (λ (h : Graphed). marked h.network pin) kept2.same

  pub marks_left : ((pin : ℕ) → is_left g.stored g2.stored touch pin ≡ false → (marked g.network pin ≡ false) × (marked g2.network pin ≡ false))
      → (pin : ℕ) → marked g2.network pin ≡ marked g.network pin
  marks_left off pin =
      held2 pin
      ∙ tables_left g.stored g2.stored touch kept.tables kept2.tables made num num2 kept.kept.tables kept2.kept.tables
      (λ p e. (sym (held p) ∙ (off p e).0, sym (held2 p) ∙ (off p e).1)) pin
      ∙ sym (held pin)

  listed_off : (pins : List ℕ) (pin : ℕ) → list_all (is_unmarked g g2) pins ≡ true → list_any (nat_eq pin) pins ≡ true → (marked g.network pin ≡ false) × (marked g2.network pin ≡ false)
  listed_off pins pin all e =
      let r = any_back (nat_eq pin) pins e in
      let here : is_unmarked g g2 pin ≡ true = subst (λ (q : ℕ). is_unmarked g g2 q ≡ true) (sym (eqb-true pin r.item r.passes)) (all_in (is_unmarked g g2) pins r.item all r.within) in
      let parts = and_parts (not (marked g.network pin)) (not (marked g2.network pin)) here in
      (not-true (marked g.network pin) parts.0, not-true (marked g2.network pin) parts.1)

  -- as the call has it
  pub marks_alike : (touched gone : List ℕ) → ((pin : ℕ) → list_any (nat_eq pin) touched ≡ is_touched_at g2.stored touch pin)
      → ((pin : ℕ) → list_any (nat_eq pin) gone ≡ (is_number g.stored.pins pin && not (is_number g2.stored.pins pin)))
      → list_all (is_unmarked g g2) touched ≡ true → list_all (is_unmarked g g2) gone ≡ true
      → (pin : ℕ) → marked g2.network pin ≡ marked g.network pin
  marks_alike touched gone each away off off2 = marks_left (λ pin e.
      elim (or_cases (is_touched_at g2.stored touch pin) (is_gone g.stored g2.stored pin) (sym (left_is g.stored g2.stored touch pin) ∙ ap not e)) [
        | inl h ↦ listed_off touched pin off (each pin ∙ h)
        | inr h ↦ listed_off gone pin off2 (away pin ∙ h)
      ])
