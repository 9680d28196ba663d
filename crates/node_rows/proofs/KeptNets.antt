-- Tables of a base, as those of a store that an ECO made of it: they have the nets that the ECO did not touch.

use Rattle.std.proofs.Common.{◌≡◌, ℕ, zero, suc, ◌<◌, ◌-◌, ℤ, false, List, [], ◌∷◌, ◌++◌, take, replicate, length, Option, None, Some, refl, sym, ap, subst, ◌∙◌, arith, length-append, length-take}
use Rattle.std.specs.Prelude.{slice_get, option_map, option_and_then, Contains}
use Rattle.std.proofs.lemmas.List.{length-replicate}
use Rattle.std.specs.Option.{option_map_or, unwrap_or}
use Rattle.timing_defs.specs.declared.kinds.Split.{Split}
use Rattle.timing_defs.specs.Netlist.{Pin, net_of, is_driver, is_listed}
use Rattle.timing_defs.specs.Wires.{net_load, wire_delay, wire_slew}
use Rattle.timing_rules.specs.Clocking.{driver_on}
use Rattle.timing_rules.specs.Range.{is_net_origin}
use Rattle.timing_rules.specs.Rows.{net_name}
use Rattle.sta_units.specs.Numbers.{is_within}
use Rattle.netlist_store.specs.Linked.{IsLinked}
use Rattle.netlist_store.specs.Numbering.{Stored, name_at, pin_numbered, IsNumbered}
use Rattle.node_rows.specs.declared.pin_wires.NetLoad.{NetLoad}
use Rattle.node_rows.specs.declared.pin_wires.PinWire.{PinWire}
use Rattle.node_rows.specs.declared.pin_wires.Wires.{Wires}
use Rattle.node_rows.specs.WireTables.{split_load, load_told, wire_at, told_delay, told_slew, IsWire, AreWires}
use Rattle.node_rows.specs.NetTrees.{is_wide_net}
use Rattle.node_rows.specs.RenewedNets.{resized, AreSized, HasNet, HaveNetsBut}
use Rattle.timing_defs.proofs.Members.{some_is}
use Rattle.store_pins.proofs.PinLaws.{below_bound, pin_of_number}
use Rattle.store_pins.proofs.DriverLaws.{net_of_number}

-- the ends of a wire of an edited store in its base
pub record AreEnds (s s2 : Stored) (name : List ℕ) (pin : ℕ) (to from : Pin) : Type 0 where
  pub sink : Pin
  pub root : Pin
  pub told : pin_numbered s pin ≡ Some sink
  pub on : net_of sink ≡ Some name
  pub ends : is_driver sink ≡ false
  pub led : Contains (driver_on s.design (Some name)) root
  pub delay : (split : Split) → wire_delay s2.design split name from to ≡ wire_delay s.design split name root sink
  pub slew : (split : Split) (x : ℤ) → wire_slew s2.design split name from to x ≡ wire_slew s.design split name root sink x

-- what an edited store has of a net as its base has it
pub record KeepsNet (s s2 : Stored) (name : List ℕ) : Type 0 where
  pub number : (net : ℕ) → name_at s2.nets net ≡ Some name → name_at s.nets net ≡ Some name
  pub load : (split : Split) → net_load s2.design split name ≡ net_load s.design split name
  pub origin : is_net_origin s2.design name ≡ is_net_origin s.design name
  pub wired : (pin : ℕ) (to from : Pin) → pin_numbered s2 pin ≡ Some to → net_of to ≡ Some name → is_driver to ≡ false → Contains (driver_on s2.design (Some name)) from
      → AreEnds s s2 name pin to from

-- items of a list of another length
module _ {X : Type 0} (more : X) where
  get_first : (xs : List X) (count i : ℕ) (rest : List X) → i < length xs → i < count → slice_get (take count xs ++ rest) i ≡ slice_get xs i
  get_first [] count i rest low l = absurd (omega arith)
  get_first (x ∷ xs) zero i rest low l = absurd (omega arith)
  get_first (x ∷ xs) (suc count) zero rest low l = refl
  get_first (x ∷ xs) (suc count) (suc i) rest low l = get_first xs count i rest (omega arith) (omega arith)

  resized_long : (xs : List X) (count : ℕ) → length (resized xs count more) ≡ count
  resized_long xs count =
      omega (arith, length-append (take count xs) (replicate (count - length xs) more), length-take count xs, length-replicate (count - length xs) more)

module _ (s s2 : Stored) (num : IsNumbered s) (linked : IsLinked s.design) (num2 : IsNumbered s2) (linked2 : IsLinked s2.design)
    (w w2 : Wires) (are : AreWires s w) (fine : (net : ℕ) → is_wide_net s net ≡ false) (none : NetLoad)
    (loads : w2.loads ≡ resized w.loads (length s2.nets) none) (pins : w2.pins ≡ resized w.pins (length s2.pins) None) where
  sized : AreSized s2 w2
  sized = record { nets = ap length loads ∙ resized_long none w.loads (length s2.nets); pins = ap length pins ∙ resized_long None w.pins (length s2.pins) }

  module _ (net : ℕ) (name : List ℕ) (named : name_at s2.nets net ≡ Some name) (k : KeepsNet s s2 name) where
    there : name_at s.nets net ≡ Some name
    there = k.number net named

    load_kept : (split : Split) → load_told w2.loads split net ≡ load_told w.loads split net
    load_kept split =
        let low = below_bound s.nets name net there in
        let low2 = below_bound s2.nets name net named in
        ap (λ xs. load_told xs split net) loads
        ∙ ap (option_map (split_load split))
        (get_first none w.loads (length s2.nets) net (replicate (length s2.nets - length w.loads) none) (omega (arith, low, are.nets)) low2)

    wire_kept : (pin : ℕ) (p p2 : Pin) → pin_numbered s pin ≡ Some p → pin_numbered s2 pin ≡ Some p2 → wire_at w2.pins pin ≡ wire_at w.pins pin
    wire_kept pin p p2 told told2 =
        let low = (pin_of_number s num linked pin p told).below in
        let low2 = (pin_of_number s2 num2 linked2 pin p2 told2).below in
        ap (λ xs. wire_at xs pin) pins
        ∙ ap (option_and_then (λ (wire : Option PinWire). wire))
        (get_first None w.pins (length s2.pins) pin (replicate (length s2.pins - length w.pins) None) (omega (arith, low, are.pins)) low2)

    wire_as : (pin : ℕ) (to from : Pin) → pin_numbered s2 pin ≡ Some to → net_of to ≡ Some name → AreEnds s s2 name pin to from → IsWire s2.design from to (wire_at w2.pins pin)
    wire_as pin to from told on e =
        let was : IsWire s.design e.root e.sink (wire_at w.pins pin) =
        are.wires pin e.sink e.root e.told e.ends (subst (λ (o : Option (List ℕ)). Contains (driver_on s.design o) e.root) (sym e.on) e.led) in
        let here : net_name to ≡ name = ap (λ o. unwrap_or o []) on in
        let before : name ≡ net_name e.sink = sym (ap (λ o. unwrap_or o []) e.on) in
        let same : wire_at w.pins pin ≡ wire_at w2.pins pin = sym (wire_kept pin e.sink to e.told told) in
        record {
          delay = λ split.
              ap (λ n. wire_delay s2.design split n from to) here ∙ e.delay split ∙ ap (λ n. wire_delay s.design split n e.root e.sink) before
              ∙ was.delay split ∙ ap (told_delay split) same;
          slew = λ split x.
              ap (λ n. wire_slew s2.design split n from to x) here ∙ e.slew split x ∙ ap (λ n. wire_slew s.design split n e.root e.sink x) before
              ∙ was.slew split x ∙ ap (λ o. told_slew split o x) same;
          within = λ split. ap (λ o. is_within (told_delay split o)) (sym same) ∙ was.within split;
        }

    net_kept : HasNet s2 w2 net
    net_kept = record {
      loads = λ split n e.
          (let same : name ≡ n = some_is (sym named ∙ e) in
          load_kept split ∙ are.loads split net name there ∙ ap Some (sym (k.load split) ∙ ap (net_load s2.design split) same));
      within = λ split n e.
          (let same : n ≡ name = some_is (sym e ∙ named) in
          ap (λ m. is_within (net_load s2.design split m)) same ∙ ap is_within (k.load split) ∙ are.within split net name there);
      wires = λ pin to from told on sinks led.
          (let t = net_of_number s2 pin net to told on in
          let its : net_of to ≡ Some name = t.on ∙ sym t.told ∙ named in
          wire_as pin to from told its (k.wired pin to from told its sinks (subst (λ (o : Option (List ℕ)). Contains (driver_on s2.design o) from) its led)));
      fine =
          ap (λ o. option_map_or (is_net_origin s2.design) o false) named ∙ k.origin
          ∙ sym (ap (λ o. option_map_or (is_net_origin s.design) o false) there) ∙ fine net;
    }

  pub started : (names : List (List ℕ)) → ((name : List ℕ) → is_listed names name ≡ false → KeepsNet s s2 name) → HaveNetsBut s2 names w2
  started names kept = record { sized = sized; nets = λ net name named off. net_kept net name named (kept name off) }
