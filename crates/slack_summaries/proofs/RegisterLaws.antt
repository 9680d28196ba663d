-- The clock pins of registers by their numbers.

use Rattle.std.proofs.Common.{◌≡◌, ℕ, ◌<◌, Bool, true, false, not, List, length, Option, None, Some, refl, sym, ap, subst, ◌∙◌, arith}
use Rattle.std.specs.Prelude.{is_some, option_map, option_and_then, slice_index_or, ◌*◌, ◌&&◌, ◌||◌}
use Rattle.std.specs.List.{list_any}
use Rattle.std.specs.Option.{option_map_or}
use Rattle.std.proofs.lemmas.Bool.{false≢true}
use Rattle.timing_defs.specs.declared.kinds.Split.TheVariants.{Late}
use Rattle.timing_defs.specs.declared.library.Cell.{Cell}
use Rattle.timing_defs.specs.declared.netlist.Inst.{Inst}
use Rattle.timing_defs.specs.declared.design.Design.{Design}
use Rattle.timing_defs.specs.Netlist.{Pin, cell_of, pin_named}
use Rattle.timing_defs.proofs.Members.{some_is}
use Rattle.timing_rules.specs.Clocking.{cell_arcs, cell_tests, clocks_cell, is_clock_pin, is_network}
use Rattle.netlist_store.specs.Linked.{IsLinked}
use Rattle.netlist_store.specs.Numbering.{Stored, name_at, is_number, inst_numbered, pin_numbered, owner_number, IsNumbered}
use Rattle.store_pins.proofs.PinLaws.{pin_at_number, owner_told}
use Rattle.pin_graph.specs.Nodes.{pin_under}
use Rattle.pin_graph.specs.Graphs.{Graphed, network_at, IsGraph}
use Rattle.slack_summaries.specs.Registers.{is_edge_from, is_clocked_by, clocks_by, is_register_pin, in_network, clocks_pin}

-- the pin of an instance by its cell
pub inst_clocks : (s : Stored) (num : IsNumbered s) (linked : IsLinked s.design) (pin : ℕ) → is_number s.pins pin ≡ true → (inst : ℕ) (cell : Cell) (own : List ℕ) (r : Bool)
    → Some inst ≡ owner_number s pin → option_and_then (cell_of s.design Late) (inst_numbered s inst) ≡ Some cell
    → option_map (λ (p : Pin). p.own) (pin_numbered s pin) ≡ Some own → r ≡ clocks_by cell own
    → option_map (is_clock_pin s.design) (pin_numbered s pin) ≡ Some r
inst_clocks s num linked pin is inst cell own r owned has named told =
    let p = pin_at_number s num linked pin is in
    let o = owner_told s num linked pin inst p.0 p.1.pin (sym owned) in
    let of_cell : cell_of s.design Late o.inst ≡ Some cell = sym (ap (option_and_then (cell_of s.design Late)) o.there.inst) ∙ has in
    let same : p.0.own ≡ own = some_is (sym (ap (option_map (λ (q : Pin). q.own)) p.1.pin) ∙ named) in
    ap (option_map (is_clock_pin s.design)) p.1.pin
    ∙ ap (λ w. Some (option_map_or (clocks_cell s.design p.0.own) w false)) o.owns
    ∙ ap (λ c. Some (list_any (is_edge_from p.0.own) (cell_arcs c) || list_any (is_clocked_by p.0.own) (cell_tests c))) of_cell
    ∙ ap (λ w. Some (clocks_by cell w)) same ∙ ap Some (sym told)

-- a port is none
pub port_clocks : (s : Stored) (num : IsNumbered s) (linked : IsLinked s.design) (pin : ℕ) → is_number s.pins pin ≡ true
    → false ≡ is_some (option_and_then (λ (p : Pin). p.owner) (pin_numbered s pin)) → option_map (is_clock_pin s.design) (pin_numbered s pin) ≡ Some false
port_clocks s num linked pin is free =
    let p = pin_at_number s num linked pin is in
    let none : false ≡ is_some p.0.owner = free ∙ ap (λ o. is_some (option_and_then (λ (q : Pin). q.owner) o)) p.1.pin in
    ap (option_map (is_clock_pin s.design)) p.1.pin ∙ by p.0.own p.0.owner none
  where
    by : (own : List ℕ) (w : Option Inst) → false ≡ is_some w → Some (option_map_or (clocks_cell s.design own) w false) ≡ Some false
    by own None e = refl
    by own (Some i) e = absurd (false≢true e)

pub network_told : (g : Graphed) (s : Stored) → g.stored ≡ s → IsGraph g → (pin : ℕ) → pin < length s.pins → network_at g (2 * pin) ≡ in_network s pin
network_told g s same is pin low =
    subst (λ (z : Stored). pin < length z.pins → network_at g (2 * pin) ≡ in_network z pin) same here low
  where
    under : pin_under (2 * pin) ≡ pin
    under = omega arith

    here : pin < length g.stored.pins → network_at g (2 * pin) ≡ in_network g.stored pin
    here l = ap (λ n. slice_index_or g.network n false) under ∙ is.network.each pin l

pub gap_clocks : (s : Stored) (pin : ℕ) → is_number s.pins pin ≡ false → false ≡ clocks_pin s pin
gap_clocks s pin gap = by (name_at s.pins pin) refl
  where
    by : (o : Option (List ℕ)) → name_at s.pins pin ≡ o → false ≡ clocks_pin s pin
    by None h = sym (ap (λ o. option_map_or (is_register_pin s.design) (option_and_then (pin_named s.design) o) false) h)
    by (Some name) h = absurd (false≢true (sym gap ∙ ap is_some h))

and_false : (a : Bool) → (a && false) ≡ false
and_false true = refl
and_false false = refl

and_true : (a : Bool) → (a && true) ≡ a
and_true true = refl
and_true false = refl

pub off_clocks : (s : Stored) (pin : ℕ) → in_network s pin ≡ false → false ≡ clocks_pin s pin
off_clocks s pin off = by (pin_numbered s pin) off
  where
    by : (o : Option Pin) → option_map_or (is_network s.design) o false ≡ false → false ≡ option_map_or (is_register_pin s.design) o false
    by None h = refl
    by (Some p) h = sym (ap (λ b. is_clock_pin s.design p && b) h ∙ and_false (is_clock_pin s.design p))

pub on_clocks : (s : Stored) (pin : ℕ) (r : Bool) → in_network s pin ≡ true → option_map (is_clock_pin s.design) (pin_numbered s pin) ≡ Some r → r ≡ clocks_pin s pin
on_clocks s pin r on told = by (pin_numbered s pin) on told
  where
    by : (o : Option Pin) → option_map_or (is_network s.design) o false ≡ true → option_map (is_clock_pin s.design) o ≡ Some r → r ≡ option_map_or (is_register_pin s.design) o false
    by None h e = absurd (false≢true h)
    by (Some p) h e = sym (ap (λ b. is_clock_pin s.design p && b) h ∙ and_true (is_clock_pin s.design p) ∙ some_is e)
