-- Register pins that are clocked: by the pins of the cell.

use Rattle.std.proofs.Common.{◌≡◌, ℕ, ◌<◌, Bool, true, false, List, map, Option, None, Some, refl, sym, ap, subst, ◌∙◌, arith}
use Rattle.std.specs.Prelude.{Contains, is_some, option_map, option_and_then, ◌&&◌}
use Rattle.std.specs.List.{list_any}
use Rattle.std.specs.Option.{option_map_or}
use Rattle.std.specs.Str.{bytes_eq}
use Rattle.std.proofs.lemmas.Bool.{false≢true, and_parts, and_from}
use Rattle.timing_defs.specs.declared.kinds.Kind.{Kind}
use Rattle.timing_defs.specs.declared.kinds.Split.TheVariants.{Late}
use Rattle.timing_defs.specs.declared.kinds.Tran.TheVariants.{Rise}
use Rattle.timing_defs.specs.declared.library.Cell.{Cell}
use Rattle.timing_defs.specs.declared.library.CellPin.{CellPin}
use Rattle.timing_defs.specs.declared.library.CellTest.{CellTest}
use Rattle.timing_defs.specs.declared.netlist.Inst.{Inst}
use Rattle.timing_defs.specs.declared.design.Design.{Design}
use Rattle.timing_defs.specs.Netlist.{Pin, cell_of, cell_pin, cell_pins}
use Rattle.timing_rules.specs.Clocking.{is_network, cell_tests}
use Rattle.timing_defs.specs.Kinds.{same_kind}
use Rattle.timing_rules.specs.Tests.{clocked_cell, is_clocked}
use Rattle.netlist_store.specs.Numbering.{Stored, is_number, inst_numbered, pin_numbered, owner_number, IsNumbered}
use Rattle.netlist_store.specs.Linked.{IsLinked}
use Rattle.pin_graph.specs.Nodes.{node_at, node_bound, pin_under}
use Rattle.pin_graph.specs.Graphs.{Graphed, network_at, IsGraph}
use Rattle.timing_defs.proofs.Members.{some_is, none_in, in_map, in_map_back, any_in, any_back}
use Rattle.pin_graph.proofs.WalkLaws.{both_same}
use Rattle.store_pins.proofs.PinLaws.{pin_at_number, owner_told}
use Rattle.node_tests.specs.Registers.{pin_node, late_pins}
use Rattle.node_tests.specs.Endpoints.{is_clocked_test, is_on_network, is_clocked_by}
use Rattle.node_tests.proofs.ClimbLaws.{node_pin}

and_three : (a b c : Bool) → (a && b && c) ≡ true → (a ≡ true) × (b ≡ true) × (c ≡ true)
and_three true true true h = (refl, refl, refl)
and_three true true false h = absurd (false≢true h)
and_three true false c h = absurd (false≢true h)
and_three false b c h = absurd (false≢true h)

three : (a b c : Bool) → a ≡ true → b ≡ true → c ≡ true → (a && b && c) ≡ true
three a b c h k l = rw h (rw k l)

module _ (d : Design) (kind : Kind) (own : List ℕ) (inst : Inst) (pins : List CellPin) (tests : List CellTest) where
  abbrev pub by_tests : CellTest → Bool
  by_tests test =
      same_kind test.kind kind && bytes_eq test.pin own
      && list_any (λ (clock : Pin). bytes_eq clock.own test.clock && is_network d clock) (map (cell_pin inst) pins)

  abbrev pub by_pins : CellPin → Bool
  by_pins pin = list_any (is_clocked_test kind own pin.name) tests && is_network d (cell_pin inst pin)

  -- a test with a clock pin of the network is there where a pin of the network with a test is
  pub turned : list_any by_tests tests ≡ list_any by_pins pins
  turned =
      both_same (list_any by_tests tests) (list_any by_pins pins)
      (λ h.
      let t = any_back by_tests tests h in
      let parts = and_three (same_kind t.item.kind kind) (bytes_eq t.item.pin own)
      (list_any (λ (clock : Pin). bytes_eq clock.own t.item.clock && is_network d clock) (map (cell_pin inst) pins)) t.passes in
      let c = any_back (λ (clock : Pin). bytes_eq clock.own t.item.clock && is_network d clock) (map (cell_pin inst) pins) parts.2 in
      let q = in_map_back (cell_pin inst) pins c.item c.within in
      let both = and_parts (bytes_eq c.item.own t.item.clock) (is_network d c.item) c.passes in
      let named : bytes_eq q.item.name t.item.clock ≡ true = ap (λ (p : Pin). bytes_eq p.own t.item.clock) q.same ∙ both.0 in
      any_in by_pins pins q.item q.within
      (and_from (list_any (is_clocked_test kind own q.item.name) tests) (is_network d (cell_pin inst q.item))
      (any_in (is_clocked_test kind own q.item.name) tests t.item t.within
      (three (same_kind t.item.kind kind) (bytes_eq t.item.pin own) (bytes_eq q.item.name t.item.clock) parts.0 parts.1 named))
      (ap (is_network d) q.same ∙ both.1)))
      (λ h.
      let q = any_back by_pins pins h in
      let both = and_parts (list_any (is_clocked_test kind own q.item.name) tests) (is_network d (cell_pin inst q.item)) q.passes in
      let t = any_back (is_clocked_test kind own q.item.name) tests both.0 in
      let parts = and_three (same_kind t.item.kind kind) (bytes_eq t.item.pin own) (bytes_eq q.item.name t.item.clock) t.passes in
      any_in by_tests tests t.item t.within
      (three (same_kind t.item.kind kind) (bytes_eq t.item.pin own)
      (list_any (λ (clock : Pin). bytes_eq clock.own t.item.clock && is_network d clock) (map (cell_pin inst) pins)) parts.0 parts.1
      (any_in (λ (clock : Pin). bytes_eq clock.own t.item.clock && is_network d clock) (map (cell_pin inst) pins) (cell_pin inst q.item)
      (in_map (cell_pin inst) pins q.item q.within)
      (and_from (bytes_eq q.item.name t.item.clock) (is_network d (cell_pin inst q.item)) parts.2 both.1))))

-- a port is clocked by itself
pub port_clocked : (d : Design) (kind : Kind) (o : Option Pin) → is_some o ≡ true → false ≡ is_some (option_and_then (λ (p : Pin). p.owner) o)
    → option_map (is_clocked d kind) o ≡ Some true
port_clocked d kind None e free = absurd (false≢true e)
port_clocked d kind (Some p) e free = by p.owner refl
  where
    by : (w : Option Inst) → p.owner ≡ w → Some (is_clocked d kind p) ≡ Some true
    by None own = ap (λ w. Some (option_map_or (clocked_cell d kind p.own) w true)) own
    by (Some i) own = absurd (false≢true (free ∙ ap is_some own))

-- a pin of an instance by what is found of the pins of its cell
pub inst_clocked : (s : Stored) (num : IsNumbered s) (linked : IsLinked s.design) (pin : ℕ) → is_number s.pins pin ≡ true → (kind : Kind) (inst : ℕ) (own : List ℕ) (cell : Cell)
    (pins : List CellPin) (tests : List CellTest) (r : Bool)
    → Some inst ≡ owner_number s pin → option_map (λ (p : Pin). p.own) (pin_numbered s pin) ≡ Some own
    → option_and_then (cell_of s.design Late) (inst_numbered s inst) ≡ Some cell → pins ≡ cell.pins → tests ≡ cell.tests
    → r ≡ list_any (is_clocked_by s kind inst own tests) pins
    → option_map (is_clocked s.design kind) (pin_numbered s pin) ≡ Some r
inst_clocked s num linked pin is kind inst own cell pins tests r owned named has same_pins same_tests e =
    let p = pin_at_number s num linked pin is in
    let o = owner_told s num linked pin inst p.0 p.1.pin (sym owned) in
    let of_cell : cell_of s.design Late o.inst ≡ Some cell = sym (ap (option_and_then (cell_of s.design Late)) o.there.inst) ∙ has in
    let word : p.0.own ≡ own = some_is (sym (ap (option_map (λ (q : Pin). q.own)) p.1.pin) ∙ named) in
    ap (option_map (is_clocked s.design kind)) p.1.pin
    ∙ ap (λ w. Some (option_map_or (clocked_cell s.design kind p.0.own) w true)) o.owns
    ∙ ap (λ w. Some (clocked_cell s.design kind w o.inst)) word
    ∙ ap (λ c. Some (list_any (λ test. same_kind test.kind kind && bytes_eq test.pin own
    && list_any (λ (clock : Pin). bytes_eq clock.own test.clock && is_network s.design clock) (map (cell_pin o.inst) (cell_pins c))) (cell_tests c))) of_cell
    ∙ ap Some (turned s.design kind own o.inst cell.pins cell.tests)
    ∙ ap Some (λ i. list_any (λ q. list_any (is_clocked_test kind own q.name) (sym same_tests i)
    && option_map_or (λ j. is_network s.design (cell_pin j q)) (sym o.there.inst i) false) (sym same_pins i))
    ∙ ap Some (sym e)

-- a pin of a cell is on the network where its node is
pub on_network : (g : Graphed) (s : Stored) → g.stored ≡ s → IsGraph g → (inst : ℕ) (pin : CellPin) (node : ℕ) → node_at s node ≡ pin_node s inst pin Rise → node < node_bound s
    → Contains (late_pins s inst) pin → network_at g node ≡ is_on_network s inst pin
on_network g s same is inst pin node told low there = by (inst_numbered s inst) refl
  where
    at_pin : network_at g node ≡ option_map_or (is_network s.design) (pin_numbered s (pin_under node)) false
    at_pin =
        is.network.each (pin_under node) (let z : node < node_bound g.stored = subst (λ (t : Stored). node < node_bound t) (sym same) low in omega (arith, z))
        ∙ ap (λ (t : Stored). option_map_or (is_network t.design) (pin_numbered t (pin_under node)) false) same

    by : (o : Option Inst) → inst_numbered s inst ≡ o → network_at g node ≡ is_on_network s inst pin
    by None e = absurd (none_in pin (subst (λ (o : Option Inst). Contains (cell_pins (option_and_then (cell_of s.design Late) o)) pin) e there))
    by (Some i) e =
        at_pin
        ∙ ap (λ o. option_map_or (is_network s.design) o false)
        (node_pin s node (record { pin = cell_pin i pin; tran = Rise }) (told ∙ ap (option_map (λ (j : Inst). record { pin = cell_pin j pin; tran = Rise })) e)).0
        ∙ sym (ap (λ o. option_map_or (λ j. is_network s.design (cell_pin j pin)) o false) e)

pub pin_is : (s : Stored) → IsNumbered s → IsLinked s.design → (pin : ℕ) → is_number s.pins pin ≡ true → is_some (pin_numbered s pin) ≡ true
pin_is s num linked pin is = ap is_some (pin_at_number s num linked pin is).1.pin
