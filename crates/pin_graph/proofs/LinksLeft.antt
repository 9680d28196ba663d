-- What an ECO leaves of the links: at a pin that is neither touched nor gone they are the same.

use Rattle.std.proofs.Common.{◌≡◌, ℕ, ◌==◌, Bool, true, false, not, List, [], ◌++◌, map, filter, length, Option, None, Some, refl, sym, ap, ◌∙◌, inl, inr}
use Rattle.std.specs.Prelude.{nat_eq, is_some, option_and_then, option_map, ◌&&◌, ◌||◌, if◌then◌else◌}
use Rattle.std.specs.List.{list_any, filter_map, range_with_len}
use Rattle.std.specs.Option.{option_map_or, option_to_list}
use Rattle.std.proofs.lemmas.Bool.{cases_Bool, false≢true, true≢false, and_parts, not-true}
use Rattle.std.proofs.lemmas.List.Folds.{list_any-append}
use Rattle.timing_defs.specs.declared.netlist.Inst.{Inst}
use Rattle.timing_defs.specs.Netlist.{Pin, pin_named, is_listed, net_of, is_driver}
use Rattle.timing_defs.specs.Touches.{Touch}
use Rattle.timing_rules.specs.Rows.{is_input_port}
use Rattle.netlist_store.specs.Applying.{IsEditOf}
use Rattle.netlist_store.specs.Linked.{IsLinked}
use Rattle.netlist_store.specs.Numbering.{Stored, name_at, number_of, is_number, pin_numbered, owner_number, IsNumbered}
use Rattle.netlist_store.proofs.SeenPins.{Seen, seen, seen_owner}
use Rattle.eco_laws.specs.Kept.{is_on_any, IsPinKept, IsSamePin, has_touched_inst, names_touched_inst, is_touched_pin}
use Rattle.eco_laws.proofs.EditOf.{base_linked, edited_linked, framed_of, pin_kept_of}
use Rattle.eco_laws.proofs.LinksKept.{arcs_at, tests_at, before_at, before_left}
use Rattle.eco_laws.proofs.NamedPins.{touched_alike, on_net_before, on_net_after, owner_of_number}
use Rattle.eco_laws.proofs.Numbers.{pin_before, pin_number}
use Rattle.eco_laws.proofs.PinsKept.{owner_told}
use Rattle.pin_graph.specs.Joins.{arc_between, arcs_of, net_before, before}
use Rattle.pin_graph.specs.Networks.{is_comb_arc, input_port, port_number, clock_ports, edge_from, tests_of, clock_pins}
use Rattle.pin_graph.specs.Seeds.{is_touched_at}
use Rattle.pin_graph.specs.Pulls.{arcs_into, arcs_from, from_pin, to_pin, pins_before, is_driven_by, sinks_of, pins_behind, network_tails, network_heads, own_arcs, own_clocks, is_gone, is_left}
use Rattle.pin_graph.proofs.AlikeLaws.{IsTwin, same_input}
use Rattle.timing_defs.proofs.Members.{in_filter, passes_in, any_in, any_back, number_in}
use Rattle.store_pins.proofs.PinLaws.{told_at, pin_of_number, pin_at_number}
use Rattle.pin_graph.proofs.JoinLaws.{then_back, net_arc_back}
use Rattle.pin_graph.proofs.WalkLaws.{both_same}
use Rattle.pin_graph.proofs.PullLaws.{driven_so, driven_by, into_is, from_is, clock_is, sink_back}

-- a pin is left where it is neither touched nor gone
pub left_is : (s s2 : Stored) (touch : Touch) (pin : ℕ) → not (is_left s s2 touch pin) ≡ (is_touched_at s2 touch pin || is_gone s s2 pin)
left_is s s2 touch pin = by (is_touched_at s2 touch pin) (is_gone s s2 pin)
  where
    by : (a b : Bool) → not (not a && not b) ≡ (a || b)
    by true b = refl
    by false true = refl
    by false false = refl

either_false : (a b : Bool) → (a || b) ≡ false → (a ≡ false) × (b ≡ false)
either_false true b e = absurd (true≢false e)
either_false false b e = (refl, e)

-- the instance of a pin that is not touched
owner_free : (s : Stored) (touch : Touch) (pin n : ℕ) → is_touched_at s touch pin ≡ false → owner_number s pin ≡ Some n → is_on_any touch.insts (name_at s.insts n) ≡ false
owner_free s touch pin n free e =
    let r = then_back (λ (x : Inst). number_of s.insts x.name) (option_and_then (λ (p : Pin). p.owner) (pin_numbered s pin)) n e in
    let p = then_back (λ (p : Pin). p.owner) (pin_numbered s pin) r.0 r.1 in
    let off : is_touched_pin touch p.0 ≡ false = sym (ap (λ o. option_map_or (is_touched_pin touch) o false) p.1) ∙ free in
    let own : has_touched_inst touch p.0 ≡ false = (either_false (is_on_any touch.nets (net_of p.0)) (has_touched_inst touch p.0) off).1 in
    ap (is_on_any touch.insts) (told_at s.insts r.0.name n r.2)
    ∙ sym (ap (λ o. option_map_or (λ (x : Inst). is_listed touch.insts x.name) o false) p.2) ∙ own

-- an input port of a name
input_named : Stored → List ℕ → Bool
input_named s name = option_map_or is_input_port (pin_named s.design name) false

abbrev nothing : Option ℕ
nothing = None

port_by : (s : Stored) (name : List ℕ) → port_number s name ≡ (if option_map_or is_input_port (pin_named s.design name) false then number_of s.pins name else None)
port_by s name = by (number_of s.pins name) refl
  where
    none : (b : Bool) → nothing ≡ (if b then nothing else nothing)
    none true = refl
    none false = refl

    by : (o : Option ℕ) → number_of s.pins name ≡ o
        → option_and_then (input_port s) o ≡ (if option_map_or is_input_port (pin_named s.design name) false then o else None)
    by None e = none (option_map_or is_input_port (pin_named s.design name) false)
    by (Some n) e = ap (λ o. if option_map_or is_input_port (option_and_then (pin_named s.design) o) false then Some n else None) (told_at s.pins name n e)

-- a port has no instance
input_free : (s : Stored) → IsLinked s.design → (touch : Touch) (name : List ℕ) → names_touched_inst touch name ≡ true
    → option_map_or is_input_port (pin_named s.design name) false ≡ false
input_free s linked touch name h = by (pin_named s.design name) refl
  where
    port : (p : Pin) (o : Option Inst) → p.owner ≡ o → option_map_or (λ inst. is_listed touch.insts inst.name) o false ≡ true → is_input_port p ≡ false
    port p None e f = absurd (false≢true f)
    port p (Some i) e f = ap (λ x. option_map_or (λ (inst : Inst). false) x true && is_driver p) e

    by : (o : Option Pin) → pin_named s.design name ≡ o → option_map_or is_input_port o false ≡ false
    by None e = refl
    by (Some p) e = port p p.owner refl (owner_told s.design linked touch.insts name p e ∙ h)

owner_seen : (o : Option Inst) → option_map (λ (i : Inst). i.name) o ≡ option_map (λ x. x.0) (seen_owner o)
owner_seen None = refl
owner_seen (Some i) = refl

seen_twin : (p p2 : Pin) → seen p2 ≡ seen p → IsTwin p p2
seen_twin p p2 e = record {
  owner = owner_seen p2.owner ∙ ap (λ (x : Seen). option_map (λ y. y.0) x.owner) e ∙ sym (owner_seen p.owner);
  own = ap (λ (x : Seen). x.own) e;
  dir = ap (λ (x : Seen). x.dir) e;
}

kept_input : (nets : List (List ℕ)) (o o2 : Option Pin) → IsPinKept nets o o2 → option_map_or is_input_port o2 false ≡ option_map_or is_input_port o false
kept_input nets None o2 h = ap (λ x. option_map_or is_input_port x false) h
kept_input nets (Some p) None h = absurd h
kept_input nets (Some p) (Some p2) h = same_input p p2 (seen_twin p p2 h.alike)

module _ (s : Stored) (touch : Touch) (s2 : Stored) (made : IsEditOf s touch s2) (num : IsNumbered s) (num2 : IsNumbered s2) where
  linked : IsLinked s.design
  linked = base_linked s touch s2 made

  linked2 : IsLinked s2.design
  linked2 = edited_linked s touch s2 made

  -- no edit changes the clocks' ports
  port_left : (name : List ℕ) → port_number s2 name ≡ port_number s name
  port_left name = elim (cases_Bool (names_touched_inst touch name)) [
    | inl e ↦
        port_by s2 name ∙ ap (λ b. if b then number_of s2.pins name else None) (input_free s2 linked2 touch name e)
        ∙ sym (port_by s name ∙ ap (λ b. if b then number_of s.pins name else None) (input_free s linked touch name e))
    | inr e ↦
        port_by s2 name
        ∙ (λ k. if kept_input touch.nets (pin_named s.design name) (pin_named s2.design name) (pin_kept_of s touch s2 made name e) k
        then pin_number s touch s2 made num num2 name e k else None)
        ∙ sym (port_by s name)
  ]

  pub ports_left : clock_ports s2 ≡ clock_ports s
  ports_left = λ k. filter_map (λ clock. option_and_then (λ name. port_left name k) clock.port) ((framed_of s touch s2 made).constraints k).clocks

  module _ (pin : ℕ) (left : is_left s s2 touch pin ≡ true) where
    pub free_after : is_touched_at s2 touch pin ≡ false
    free_after = not-true (is_touched_at s2 touch pin) (and_parts (not (is_touched_at s2 touch pin)) (not (is_gone s s2 pin)) left).0

    stays : is_gone s s2 pin ≡ false
    stays = not-true (is_gone s s2 pin) (and_parts (not (is_touched_at s2 touch pin)) (not (is_gone s s2 pin)) left).1

    pub free_before : is_touched_at s touch pin ≡ false
    free_before = by (pin_numbered s pin) refl
      where
        here : (b c : Bool) → b ≡ true → (b && not c) ≡ false → c ≡ true
        here true true e h = refl
        here true false e h = absurd (true≢false h)
        here false c e h = absurd (false≢true e)

        by : (o : Option Pin) → pin_numbered s pin ≡ o → is_touched_at s touch pin ≡ false
        by None e = ap (λ o. option_map_or (is_touched_pin touch) o false) e
        by (Some p) e =
            let there = here (is_number s.pins pin) (is_number s2.pins pin) (ap is_some (pin_of_number s num linked pin p e).name) stays in
            let p2 = pin_at_number s2 num2 linked2 pin there in
            let off : is_touched_pin touch p2.0 ≡ false = sym (ap (λ o. option_map_or (is_touched_pin touch) o false) p2.1.pin) ∙ free_after in
            let h = pin_before s touch s2 made num num2 pin p2.0 p2.1.pin off in
            ap (λ o. option_map_or (is_touched_pin touch) o false) h.numbered
            ∙ sym (touched_alike touch h.pin p2.0 (record { alike = h.same.alike; joined = inl (sym h.same.joined) })) ∙ off

    -- the number from which a net arc leads to it
    pub before_same : before s2 pin ≡ before s pin
    before_same = before_at s touch s2 made num num2 pin free_before free_after

    owner_same : owner_number s2 pin ≡ owner_number s pin
    owner_same = owner_of_number s touch s2 made num num2 pin free_before free_after

    -- what is told of its instance
    module _ {Y : Type 0} (f2 f : ℕ → Y) (y : Y)
        (each : (n : ℕ) → is_on_any touch.insts (name_at s.insts n) ≡ false → is_on_any touch.insts (name_at s2.insts n) ≡ false → f2 n ≡ f n) where
      at_owner : option_map_or f2 (owner_number s2 pin) y ≡ option_map_or f (owner_number s pin) y
      at_owner = ap (λ o. option_map_or f2 o y) owner_same ∙ by (owner_number s pin) refl
        where
          by : (o : Option ℕ) → owner_number s pin ≡ o → option_map_or f2 o y ≡ option_map_or f o y
          by None e = refl
          by (Some n) e = each n (owner_free s touch pin n free_before e) (owner_free s2 touch pin n free_after (owner_same ∙ e))

    arcs_there : (n : ℕ) → is_on_any touch.insts (name_at s.insts n) ≡ false → is_on_any touch.insts (name_at s2.insts n) ≡ false → arcs_of s2 n ≡ arcs_of s n
    arcs_there n off off2 = arcs_at s touch s2 made num num2 n off off2 arc_between

    tests_there : (n : ℕ) → is_on_any touch.insts (name_at s.insts n) ≡ false → is_on_any touch.insts (name_at s2.insts n) ≡ false → tests_of s2 n ≡ tests_of s n
    tests_there n off off2 = tests_at s touch s2 made num num2 n off off2 (λ test clock pin2. clock)

    own_same : own_arcs s2 pin ≡ own_arcs s pin
    own_same = at_owner (arcs_of s2) (arcs_of s) [] arcs_there

    -- the arcs into it and out of it
    pub into_same : arcs_into s2 pin ≡ arcs_into s pin
    into_same = into_is s2 num2 linked2 pin ∙ ap (filter (λ arc. arc.to == pin)) own_same ∙ sym (into_is s num linked pin)

    pub from_same : arcs_from s2 pin ≡ arcs_from s pin
    from_same = from_is s2 num2 linked2 pin ∙ ap (filter (λ arc. arc.from == pin)) own_same ∙ sym (from_is s num linked pin)

    -- whether it is a register's clock pin
    pub clock_same : list_any (nat_eq pin) (clock_pins s2) ≡ list_any (nat_eq pin) (clock_pins s)
    clock_same =
        clock_is s2 num2 linked2 pin
        ∙ at_owner (λ n. list_any (nat_eq pin) (own_clocks s2 n)) (λ n. list_any (nat_eq pin) (own_clocks s n)) false
        (λ n off off2. λ k. list_any (nat_eq pin) (filter_map edge_from (arcs_there n off off2 k) ++ tests_there n off off2 k))
        ∙ sym (clock_is s num linked pin)

    pub pins_before_same : pins_before s2 pin ≡ pins_before s pin
    pins_before_same = λ k. option_to_list (before_same k) ++ map from_pin (into_same k)

    pub tails_same : network_tails s2 pin ≡ network_tails s pin
    tails_same = λ k. option_to_list (before_same k) ++ map from_pin (filter is_comb_arc (into_same k))

    -- its sinks
    net_free : (t : Stored) (p : Pin) (net : List ℕ) → is_touched_at t touch pin ≡ false → pin_numbered t pin ≡ Some p → net_of p ≡ Some net → is_listed touch.nets net ≡ false
    net_free t p net free e on =
        let off : is_touched_pin touch p ≡ false = sym (ap (λ o. option_map_or (is_touched_pin touch) o false) e) ∙ free in
        sym (ap (is_on_any touch.nets) on) ∙ (either_false (is_on_any touch.nets (net_of p)) (has_touched_inst touch p) off).0

    joined_same : (net : List ℕ) → is_listed touch.nets net ≡ false → (q : ℕ) (p p2 : Pin) → pin_numbered s q ≡ Some p → pin_numbered s2 q ≡ Some p2
        → net_of p ≡ Some net → IsSamePin p p2 → before s2 q ≡ before s q
    joined_same net off q p p2 e e2 on same =
        ap (option_and_then (net_before s2)) e2
        ∙ before_left s touch s2 made num num2 p p2 same (ap (is_on_any touch.nets) (same.joined ∙ on) ∙ off)
        ∙ sym (ap (option_and_then (net_before s)) e)

    pub sink_after : (q : ℕ) → before s q ≡ Some pin → before s2 q ≡ Some pin
    sink_after q e =
        let a = net_arc_back s num linked pin q e in
        let off = net_free s a.source a.net free_before a.source_number.pin a.its_driver.on in
        let h = on_net_after s touch s2 made num num2 a.net off q a.sink a.sink_number.pin a.on in
        joined_same a.net off q a.sink h.pin2 a.sink_number.pin h.numbered a.on h.same ∙ e

    pub sink_before : (q : ℕ) → before s2 q ≡ Some pin → before s q ≡ Some pin
    sink_before q e =
        let a = net_arc_back s2 num2 linked2 pin q e in
        let off = net_free s2 a.source a.net free_after a.source_number.pin a.its_driver.on in
        let h = on_net_before s touch s2 made num num2 a.net off q a.sink a.sink_number.pin a.on in
        sym (joined_same a.net off q h.pin a.sink h.numbered a.sink_number.pin (sym h.same.joined ∙ a.on) h.same) ∙ e

    pub driven_same : (q : ℕ) → is_driven_by s2 pin q ≡ is_driven_by s pin q
    driven_same q =
        both_same (is_driven_by s2 pin q) (is_driven_by s pin q)
        (λ e. driven_by s pin q (sink_before q (driven_so s2 pin q e))) (λ e. driven_by s2 pin q (sink_after q (driven_so s pin q e)))

    sinks_same : (q : ℕ) → list_any (nat_eq q) (sinks_of s2 pin) ≡ list_any (nat_eq q) (sinks_of s pin)
    sinks_same q =
        both_same (list_any (nat_eq q) (sinks_of s2 pin)) (list_any (nat_eq q) (sinks_of s pin))
        (λ e.
        let r = any_back (nat_eq q) (sinks_of s2 pin) e in
        let is = sink_before r.item (driven_so s2 pin r.item (passes_in (is_driven_by s2 pin) (range_with_len 0 (length s2.pins)) r.item r.within)) in
        any_in (nat_eq q) (sinks_of s pin) r.item
        (in_filter (is_driven_by s pin) (range_with_len 0 (length s.pins)) r.item
        (number_in (length s.pins) r.item (sink_back s num linked pin r.item is).below) (driven_by s pin r.item is)) r.passes)
        (λ e.
        let r = any_back (nat_eq q) (sinks_of s pin) e in
        let is = sink_after r.item (driven_so s pin r.item (passes_in (is_driven_by s pin) (range_with_len 0 (length s.pins)) r.item r.within)) in
        any_in (nat_eq q) (sinks_of s2 pin) r.item
        (in_filter (is_driven_by s2 pin) (range_with_len 0 (length s2.pins)) r.item
        (number_in (length s2.pins) r.item (sink_back s2 num2 linked2 pin r.item is).below) (driven_by s2 pin r.item is)) r.passes)

    pub pins_behind_same : (q : ℕ) → list_any (nat_eq q) (pins_behind s2 pin) ≡ list_any (nat_eq q) (pins_behind s pin)
    pins_behind_same q =
        list_any-append (nat_eq q) (sinks_of s2 pin) (map to_pin (arcs_from s2 pin))
        ∙ (λ k. sinks_same q k || list_any (nat_eq q) (map to_pin (from_same k)))
        ∙ sym (list_any-append (nat_eq q) (sinks_of s pin) (map to_pin (arcs_from s pin)))

    pub heads_same : (q : ℕ) → list_any (nat_eq q) (network_heads s2 pin) ≡ list_any (nat_eq q) (network_heads s pin)
    heads_same q =
        list_any-append (nat_eq q) (sinks_of s2 pin) (map to_pin (filter is_comb_arc (arcs_from s2 pin)))
        ∙ (λ k. sinks_same q k || list_any (nat_eq q) (map to_pin (filter is_comb_arc (from_same k))))
        ∙ sym (list_any-append (nat_eq q) (sinks_of s pin) (map to_pin (filter is_comb_arc (arcs_from s pin))))
