-- The loads and the wires of a store's nets are within their limits where no net is an origin of an overflow.

use Rattle.std.proofs.Common.{◌≡◌, ℕ, pos, Bool, true, false, not, List, Option, None, Some, refl, sym, ap, ◌∙◌}
use Rattle.std.specs.Prelude.{Contains, is_some, ◌||◌}
use Rattle.std.specs.Option.{option_map_or}
use Rattle.std.proofs.lemmas.Bool.{or_parts, true≢false}
use Rattle.sta_units.specs.Numbers.{is_within}
use Rattle.timing_defs.specs.declared.kinds.Split.{Split}
use Rattle.timing_defs.specs.declared.kinds.Split.TheVariants.{Early, Late}
use Rattle.timing_defs.specs.declared.parasitics.NetRc.{NetRc}
use Rattle.timing_defs.specs.Netlist.{Pin, Node, pins, net_of, is_driver}
use Rattle.timing_defs.specs.Wires.{net_load, load_of, rc_of, wire_delay}
use Rattle.timing_rules.specs.Clocking.{driver_on, is_network}
use Rattle.timing_rules.specs.Rows.{arcs_in, all_arcs_in, net_arcs_in, net_name}
use Rattle.timing_rules.specs.Range.{either_split, wires_within, net_wires_within, is_large_rc, is_net_origin, is_loaded}
use Rattle.netlist_store.specs.Linked.{IsLinked}
use Rattle.netlist_store.specs.Numbering.{Stored, name_at, number_of, IsNumbered}
use Rattle.node_rows.specs.declared.pin_wires.Wires.{Wires}
use Rattle.node_rows.specs.WireTables.{AreWires}
use Rattle.node_rows.specs.NetTrees.{is_wide_net}
use Rattle.node_rows.proofs.PinSums.{net_listed}
use Rattle.node_rows.proofs.FineLaws.{IsCarried}
use Rattle.timing_defs.proofs.Members.{in_map_back, kept_in}
use Rattle.store_pins.proofs.PinLaws.{told_at, there}
use Rattle.pin_graph.proofs.NodeLaws.{HasNode}

not_not : (b : Bool) → not b ≡ false → b ≡ true
not_not true h = refl
not_not false h = absurd (true≢false h)

-- nothing is within the limit
none_within : is_within (pos 0) ≡ true
none_within = refl

module _ (s : Stored) (num : IsNumbered s) (linked : IsLinked s.design) (wires : Wires) (are : AreWires s wires)
    (nets : (net : ℕ) → is_wide_net s net ≡ false) where
  -- a net of the design has a number
  pub net_number : (name : List ℕ) → is_some (number_of s.nets name) ≡ true → (n : ℕ) × (name_at s.nets n ≡ Some name)
  net_number name h = let k = there (number_of s.nets name) h in (k.0, told_at s.nets name k.0 k.1)

  pub net_fine : (n : ℕ) (name : List ℕ) → name_at s.nets n ≡ Some name → is_net_origin s.design name ≡ false
  net_fine n name e = sym (ap (λ o. option_map_or (is_net_origin s.design) o false) e) ∙ nets n

  module _ (p : Pin) (c : Contains (pins s.design) p) (name : List ℕ) (on : net_of p ≡ Some name) where
    number : (n : ℕ) × (name_at s.nets n ≡ Some name)
    number = net_number name (num.net_names name ∙ net_listed s.design linked p name c on)

    rc_fine : (split : Split) (rc : NetRc) → rc_of s.design name ≡ Some rc → wires_within s.design split rc ≡ true
    rc_fine split rc e =
        let whole = or_parts (either_split (λ t. not (is_within (net_load s.design t name)))) (option_map_or (is_large_rc s.design) (rc_of s.design name) false)
        (net_fine number.0 name number.1) in
        let rc_small : is_large_rc s.design rc ≡ false = sym (ap (λ o. option_map_or (is_large_rc s.design) o false) e) ∙ whole.1 in
        let splits = or_parts (not (wires_within s.design Early rc)) (not (wires_within s.design Late rc)) (or_parts _ (either_split (λ t. not (wires_within s.design t rc))) rc_small).1 in
        by split splits.0 splits.1
      where
        by : (t : Split) → not (wires_within s.design Early rc) ≡ false → not (wires_within s.design Late rc) ≡ false → wires_within s.design t rc ≡ true
        by Early a b = not_not (wires_within s.design Early rc) a
        by Late a b = not_not (wires_within s.design Late rc) b

    net_within : (split : Split) → net_wires_within s.design split (Some name) ≡ true
    net_within split = by (rc_of s.design name) refl
      where
        by : (o : Option NetRc) → rc_of s.design name ≡ o → option_map_or (wires_within s.design split) (rc_of s.design name) true ≡ true
        by None e = ap (λ o. option_map_or (wires_within s.design split) o true) e
        by (Some rc) e = ap (λ o. option_map_or (wires_within s.design split) o true) e ∙ rc_fine split rc e

  module _ (to : Node) (k : ℕ) (h : HasNode s to k) (split : Split) where
    loaded : is_loaded s.design split to ≡ true
    loaded = by (net_of to.pin) refl
      where
        by : (o : Option (List ℕ)) → net_of to.pin ≡ o → is_loaded s.design split to ≡ true
        by None e = ap (λ o. is_within (load_of s.design split o)) e ∙ none_within
        by (Some name) e =
            let n = number to.pin h.has.within name e in
            ap (λ o. is_within (load_of s.design split o)) e ∙ are.within split n.0 name n.1

    joined : net_wires_within s.design split (net_of to.pin) ≡ true
    joined = by (net_of to.pin) refl
      where
        by : (o : Option (List ℕ)) → net_of to.pin ≡ o → net_wires_within s.design split (net_of to.pin) ≡ true
        by None e = ap (net_wires_within s.design split) e
        by (Some name) e = ap (net_wires_within s.design split) e ∙ net_within to.pin h.has.within name e split

    along_all : is_driver to.pin ≡ false → (from : Node) → Contains (all_arcs_in s.design to) from
        → is_within (wire_delay s.design split (net_name to.pin) from.pin to.pin) ≡ true
    along_all sinking from c =
        let listed : Contains (net_arcs_in s.design to) from = (rw sinking at c) in
        let m = in_map_back (λ (pin : Pin). record { pin = pin; tran = to.tran }) (driver_on s.design (net_of to.pin)) from listed in
        let same : m.item ≡ from.pin = ap (λ (n : Node). n.pin) m.same in
        let w = are.wires h.pin to.pin m.item h.has.pin sinking m.within in
        ap (λ (p : Pin). is_within (wire_delay s.design split (net_name to.pin) p to.pin)) (sym same) ∙ ap is_within (w.delay split) ∙ w.within split

    along : is_driver to.pin ≡ false → (from : Node) → Contains (arcs_in s.design to) from
        → is_within (wire_delay s.design split (net_name to.pin) from.pin to.pin) ≡ true
    unfolding arcs_in
    along sinking from c =
        along_all sinking from (kept_in (λ f. not (is_network s.design to.pin) || is_network s.design f.pin) (all_arcs_in s.design to) from c)

    pub carried : IsCarried s.design split to
    carried = record { load = λ drives. loaded; wires = λ sinking. joined; delays = along }
