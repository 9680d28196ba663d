-- Endpoints by the numbers of pins.

use Rattle.std.proofs.Common.{◌≡◌, ℕ, Bool, true, false, not, List, [], Option, None, Some, refl, sym, ap, ◌∙◌}
use Rattle.std.specs.Prelude.{is_some, option_map, option_and_then, ◌&&◌}
use Rattle.std.specs.List.{list_any}
use Rattle.std.specs.Option.{option_map_or}
use Rattle.std.specs.Str.{bytes_eq}
use Rattle.std.proofs.lemmas.Bool.{false≢true}
use Rattle.timing_defs.specs.declared.kinds.Split.TheVariants.{Late}
use Rattle.timing_defs.specs.declared.library.Cell.{Cell}
use Rattle.timing_defs.specs.declared.library.CellTest.{CellTest}
use Rattle.timing_defs.specs.declared.netlist.Inst.{Inst}
use Rattle.timing_defs.specs.declared.design.Design.{Design}
use Rattle.timing_defs.specs.Netlist.{Pin, cell_of, is_driver}
use Rattle.timing_rules.specs.Clocking.{cell_tests}
use Rattle.timing_rules.specs.Tests.{tests_pin, is_endpoint}
use Rattle.netlist_store.specs.Numbering.{Stored, is_number, inst_numbered, pin_numbered, owner_number, IsNumbered}
use Rattle.netlist_store.specs.Linked.{IsLinked}
use Rattle.timing_defs.proofs.Members.{some_is}
use Rattle.store_pins.proofs.PinLaws.{pin_at_number, owner_told}

-- a pin that drives its net is no endpoint
pub driver_end : (d : Design) (o : Option Pin) → option_map is_driver o ≡ Some true → option_map (is_endpoint d) o ≡ Some false
driver_end d None e = absurd (cc)
driver_end d (Some p) e = ap (λ b. Some (not b && option_map_or (tests_pin d p.own) p.owner true)) (some_is e)

-- another port is one
pub port_end : (d : Design) (o : Option Pin) → option_map is_driver o ≡ Some false → false ≡ is_some (option_and_then (λ (p : Pin). p.owner) o)
    → option_map (is_endpoint d) o ≡ Some true
port_end d None e free = absurd (cc)
port_end d (Some p) e free = by p.owner refl
  where
    by : (w : Option Inst) → p.owner ≡ w → Some (is_endpoint d p) ≡ Some true
    by None own =
        ap (λ b. Some (not b && option_map_or (tests_pin d p.own) p.owner true)) (some_is e) ∙ ap (λ w. Some (option_map_or (tests_pin d p.own) w true)) own
    by (Some i) own = absurd (false≢true (free ∙ ap is_some own))

-- a cell without tests has none at its pin
pub untested : (s : Stored) → IsNumbered s → IsLinked s.design → (pin : ℕ) → is_number s.pins pin ≡ true → (tests : List CellTest) → tests ≡ []
    → option_map (λ (p : Pin). list_any (λ (test : CellTest). bytes_eq test.pin p.own) tests) (pin_numbered s pin) ≡ Some false
untested s num linked pin is tests none =
    let p = pin_at_number s num linked pin is in
    ap (option_map (λ (q : Pin). list_any (λ (test : CellTest). bytes_eq test.pin q.own) tests)) p.1.pin
    ∙ ap (λ ts. Some (list_any (λ (test : CellTest). bytes_eq test.pin p.0.own) ts)) none

-- a test at the pin of that name
pub tested : (o : Option Pin) (own : List ℕ) (tests : List CellTest) (r : Bool) → option_map (λ (p : Pin). p.own) o ≡ Some own
    → r ≡ list_any (λ (test : CellTest). bytes_eq test.pin own) tests
    → option_map (λ (p : Pin). list_any (λ (test : CellTest). bytes_eq test.pin p.own) tests) o ≡ Some r
tested None own tests r named e = absurd (cc)
tested (Some p) own tests r named e =
    ap (λ w. Some (list_any (λ (test : CellTest). bytes_eq test.pin w) tests)) (some_is named) ∙ ap Some (sym e)

-- a pin of an instance is one where a test of its cell stands there
pub inst_end : (s : Stored) (num : IsNumbered s) (linked : IsLinked s.design) (pin : ℕ) → is_number s.pins pin ≡ true → (inst : ℕ) (cell : Cell) (tests : List CellTest) (r : Bool)
    → option_map is_driver (pin_numbered s pin) ≡ Some false → Some inst ≡ owner_number s pin
    → option_and_then (cell_of s.design Late) (inst_numbered s inst) ≡ Some cell → tests ≡ cell.tests
    → option_map (λ (p : Pin). list_any (λ (test : CellTest). bytes_eq test.pin p.own) tests) (pin_numbered s pin) ≡ Some r
    → option_map (is_endpoint s.design) (pin_numbered s pin) ≡ Some r
inst_end s num linked pin is inst cell tests r sink owned has same told =
    let p = pin_at_number s num linked pin is in
    let o = owner_told s num linked pin inst p.0 p.1.pin (sym owned) in
    let of_cell : cell_of s.design Late o.inst ≡ Some cell = sym (ap (option_and_then (cell_of s.design Late)) o.there.inst) ∙ has in
    let free : is_driver p.0 ≡ false = some_is (sym (ap (option_map is_driver) p.1.pin) ∙ sink) in
    ap (option_map (is_endpoint s.design)) p.1.pin
    ∙ ap (λ b. Some (not b && option_map_or (tests_pin s.design p.0.own) p.0.owner true)) free
    ∙ ap (λ w. Some (option_map_or (tests_pin s.design p.0.own) w true)) o.owns
    ∙ ap (λ c. Some (list_any (λ test. bytes_eq test.pin p.0.own) (cell_tests c))) of_cell
    ∙ ap (λ ts. Some (list_any (λ test. bytes_eq test.pin p.0.own) ts)) (sym same)
    ∙ sym (ap (option_map (λ (q : Pin). list_any (λ (test : CellTest). bytes_eq test.pin q.own) tests)) p.1.pin)
    ∙ told
