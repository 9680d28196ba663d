-- What a store that an ECO made has, as its base, of a net that the ECO did not touch.

use Rattle.std.proofs.Common.{◌≡◌, ℕ, true, false, List, [], filter, length, Option, None, Some, refl, sym, ap, subst, ◌∙◌, inl, inr}
use Rattle.std.specs.Prelude.{is_some, option_map, Contains}
use Rattle.std.specs.Option.{option_map_or, option_to_list}
use Rattle.std.specs.Str.{bytes_eq}
use Rattle.timing_defs.specs.Touches.{Touch}
use Rattle.timing_defs.specs.Netlist.{Pin, name_of, pins, net_of, is_on, is_listed, driver}
use Rattle.timing_rules.specs.Clocking.{driver_on}
use Rattle.netlist_store.specs.Linked.{IsLinked}
use Rattle.netlist_store.specs.Numbering.{Stored, name_at, number_of, pin_numbered, IsNumbered}
use Rattle.netlist_store.specs.Applying.{IsApplied, IsEditOf}
use Rattle.netlist_store.proofs.SeenPins.{Seen, seen, seen_on}
use Rattle.netlist_store.proofs.Untouched.{IsLeft, IsFramed, left_by_eco, framed_by_eco}
use Rattle.eco_laws.proofs.SeenLaws.{same_name, same_drives}
use Rattle.eco_laws.proofs.NetsLeft.{driver_left, net_load_left, net_origin_left, wire_delay_left, wire_slew_left}
use Rattle.timing_defs.proofs.Members.{some_is, first_in, in_cases, none_in, in_map, in_map_back, in_filter, kept_in, passes_in}
use Rattle.timing_defs.proofs.SameNames.{same_self}
use Rattle.store_pins.proofs.PinLaws.{told_at, there, pin_told, pin_of_number}
use Rattle.store_pins.proofs.DriverLaws.{on_net}
use Rattle.node_rows.specs.declared.pin_wires.Wires.{Wires}
use Rattle.node_rows.specs.WireTables.{AreWires}
use Rattle.node_rows.specs.NetTrees.{is_wide_net}
use Rattle.node_rows.specs.RenewedNets.{resized, no_load, HaveNetsBut}
use Rattle.node_rows.proofs.KeptNets.{KeepsNet, started}

module _ (s s2 : Stored) (num : IsNumbered s) (linked : IsLinked s.design) (num2 : IsNumbered s2) (linked2 : IsLinked s2.design)
    (touch : Touch) (made : IsEditOf s touch s2) (name : List ℕ) (off : is_listed touch.nets name ≡ false) where
  abbrev how : IsApplied s made.0 s2 touch
  how = made.1

  left : IsLeft name s.design s2.design
  left = left_by_eco name s.design made.0 how.linked how.is_eco s2.design how.made (ap (λ ns. is_listed ns name) (sym how.nets) ∙ off)

  framed : IsFramed s.design s2.design
  framed = framed_by_eco s.design made.0 s2.design how.made

  number : (net : ℕ) → name_at s2.nets net ≡ Some name → name_at s.nets net ≡ Some name
  number net named =
      let after : number_of s2.nets name ≡ Some net = num2.nets.distinct net name named in
      let listed : is_listed s.design.nets name ≡ true = sym left.listed ∙ sym (num2.net_names name) ∙ ap is_some after in
      let before = there (number_of s.nets name) (num.net_names name ∙ listed) in
      let same : before.0 ≡ net = how.numbers.nets.numbers name before.0 net before.1 after in
      ap (name_at s.nets) (sym same) ∙ told_at s.nets name before.0 before.1

  -- a pin of the net
  record Before (pin : ℕ) (p2 : Pin) : Type 0 where
    was : Pin
    told : pin_numbered s pin ≡ Some was
    on : net_of was ≡ Some name
    same : seen p2 ≡ seen was

  before : (pin : ℕ) (p2 : Pin) → pin_numbered s2 pin ≡ Some p2 → net_of p2 ≡ Some name → Before pin p2
  before pin p2 told2 on2 =
      let here = pin_of_number s2 num2 linked2 pin p2 told2 in
      let sits : is_on name p2 ≡ true = ap (λ o. option_map_or (bytes_eq name) o false) on2 ∙ same_self name in
      let after : Contains (seen_on s2.design name) (seen p2) =
      in_map seen (filter (is_on name) (pins s2.design)) p2 (in_filter (is_on name) (pins s2.design) p2 here.within sits) in
      let m = in_map_back seen (filter (is_on name) (pins s.design)) (seen p2) (subst (λ (xs : List Seen). Contains xs (seen p2)) left.seen after) in
      let p = pin_told s num linked m.item (kept_in (is_on name) (pins s.design) m.item m.within) in
      let called : name_of m.item ≡ name_of p2 = same_name p2 m.item m.same in
      let number2 : number_of s2.pins (name_of m.item) ≡ Some pin = ap (number_of s2.pins) called ∙ here.number in
      let same : p.0 ≡ pin = how.numbers.pins.numbers (name_of m.item) p.0 pin p.1.number number2 in
      record {
        was = m.item;
        told = ap (pin_numbered s) (sym same) ∙ p.1.pin;
        on = on_net name (net_of m.item) (passes_in (is_on name) (pins s.design) m.item m.within);
        same = sym m.same;
      }

  -- the driver of the net
  record Root (from : Pin) : Type 0 where
    was : Pin
    led : Contains (driver_on s.design (Some name)) was
    same : seen from ≡ seen was

  root : (from : Pin) → Contains (driver_on s2.design (Some name)) from → Root from
  root from c = by (driver s2.design name) refl (driver s.design name) refl
    where
      by : (o2 : Option Pin) → driver s2.design name ≡ o2 → (o : Option Pin) → driver s.design name ≡ o → Root from
      by None e2 o e = absurd (none_in from (subst (λ (q : Option Pin). Contains (option_to_list q) from) e2 c))
      by (Some p2) e2 None e =
          let bad : Some (seen p2) ≡ None = sym (ap (option_map seen) e2) ∙ driver_left name s.design s2.design left framed ∙ ap (option_map seen) e in
          absurd (cc)
      by (Some p2) e2 (Some p) e =
          let same : seen p2 ≡ seen p =
          some_is (sym (ap (option_map seen) e2) ∙ driver_left name s.design s2.design left framed ∙ ap (option_map seen) e) in
          record {
            was = p;
            led = subst (λ (q : Option Pin). Contains (option_to_list q) p) (sym e) (first_in p []);
            same = elim (in_cases p2 [] from (subst (λ (q : Option Pin). Contains (option_to_list q) from) e2 c)) [
              | inl its ↦ ap seen (sym its) ∙ same
              | inr none ↦ absurd (none_in from none)
            ];
          }

  pub kept_by_eco : KeepsNet s s2 name
  kept_by_eco = record {
    number = number;
    load = net_load_left name s.design s2.design left framed;
    origin = net_origin_left name s.design s2.design left framed;
    wired = λ pin to from told on ends led.
        (let b = before pin to told on in
        let r = root from led in
        record {
          sink = b.was;
          root = r.was;
          told = b.told;
          on = b.on;
          ends = sym (same_drives b.was to b.same) ∙ ends;
          led = r.led;
          delay = wire_delay_left name s.design s2.design left framed r.was from b.was to (same_name r.was from r.same) (same_name b.was to b.same);
          slew = wire_slew_left name s.design s2.design left framed r.was from b.was to (same_name r.was from r.same) (same_name b.was to b.same);
        });
  }

-- the tables of the base have all nets of the edited store but those that the ECO touched
pub nets_left : (s s2 : Stored) → IsNumbered s → IsLinked s.design → IsNumbered s2 → IsLinked s2.design → (touch : Touch) → IsEditOf s touch s2
    → (w w2 : Wires) → AreWires s w → ((net : ℕ) → is_wide_net s net ≡ false) → w2.loads ≡ resized w.loads (length s2.nets) no_load → w2.pins ≡ resized w.pins (length s2.pins) None
    → (names : List (List ℕ)) → names ≡ touch.nets → HaveNetsBut s2 names w2
nets_left s s2 num linked num2 linked2 touch made w w2 are fine loads pins names same =
    started s s2 num linked num2 linked2 w w2 are fine no_load loads pins names
    (λ name off. kept_by_eco s s2 num linked num2 linked2 touch made name (ap (λ ns. is_listed ns name) (sym same) ∙ off))
