-- What is found of a net with resistors.

use Rattle.std.proofs.Common.{◌≡◌, ℕ, Bool, true, false, not, ◌||◌, List, [], ◌∷◌, map, length, get_or, Option, None, Some, refl, sym, ap, subst, ◌∙◌}
use Rattle.std.specs.Prelude.{nat_eq, find, ◌&&◌, if◌then◌else◌, option_and_then, All, Contains}
use Rattle.std.specs.List.{list_any}
use Rattle.std.specs.Option.{option_map_or, unwrap_or}
use Rattle.std.proofs.lemmas.Bool.{false≢true, and_parts, false_from_ne_true, eqb-true, eq-eqb}
use Rattle.std.proofs.lemmas.List.Elements.{All-from_get_or, Contains-get_or}
use Rattle.sta_units.specs.Numbers.{is_within}
use Rattle.timing_defs.specs.declared.kinds.Split.{Split}
use Rattle.timing_defs.specs.declared.kinds.Split.TheVariants.{Early, Late}
use Rattle.timing_defs.specs.declared.parasitics.RcNode.TheVariants.{Pin as rc_pin}
use Rattle.timing_defs.specs.declared.parasitics.NetRc.{NetRc}
use Rattle.timing_defs.specs.declared.design.Design.{Design}
use Rattle.timing_defs.specs.Netlist.{Pin, name_of, pins, net_of, is_on, is_driver}
use Rattle.timing_defs.specs.Wires.{same_rc, net_load, rc_of, is_lumped, root_node}
use Rattle.timing_rules.specs.Clocking.{driver_on}
use Rattle.timing_defs.specs.NetChecks.{named_nodes}
use Rattle.timing_rules.specs.Range.{is_large_rc, is_net_origin}
use Rattle.netlist_store.specs.Linked.{IsLinked}
use Rattle.netlist_store.specs.Numbering.{Stored, name_at, pin_numbered, net_number, is_on_number, IsNumbered}
use Rattle.rc_tree.specs.Trees.{Told, is_node, is_out_of_range, IsTreeOf}
use Rattle.rc_tree.proofs.Routes.{same_rc_self}
use Rattle.node_rows.specs.declared.pin_wires.NetLoad.{NetLoad}
use Rattle.node_rows.specs.declared.pin_wires.PinWire.{PinWire}
use Rattle.node_rows.specs.declared.net_trees.NetTrees.{NetTrees}
use Rattle.node_rows.specs.NetPins.{IsOnNet, pin_cap_at}
use Rattle.store_pins.specs.Drivers.{drives_at}
use Rattle.node_rows.specs.NetTrees.{IsSoundNets, IsTreeNet, AreTrees, HasWire, is_wide_net, late_of, pin_word}
use Rattle.node_rows.specs.WireTables.{IsWire, split_load, wire_at}
use Rattle.node_rows.specs.FoundNets.{AreNetWires, IsNetLoad}
use Rattle.timing_defs.proofs.Members.{some_is, later_in, any_in, any_back, found_in, found_passes, found_some, in_filter}
use Rattle.node_rows.proofs.NetFaults.{has_driver}
use Rattle.store_pins.proofs.PinLaws.{pin_of_number}
use Rattle.store_pins.proofs.DriverLaws.{counted_in, net_of_number}
use Rattle.node_rows.proofs.PinSums.{number, numbered, on_number, number_on}
use Rattle.node_rows.proofs.TreeNets.{counted_on, rc_in, rc_name, pin_named_there, tree_list_is, load_is, early_origin, late_origin, wired_to}

-- the net of parasitics that are told by a number
pub named_by : (d : Design) (o : Option (List ℕ)) (rc : NetRc) → option_and_then (rc_of d) o ≡ Some rc → o ≡ Some rc.net
named_by d None rc e = absurd (cc)
named_by d (Some name) rc e = ap Some (sym (rc_name d name rc e))

-- the loads of a net that is no origin
both_true : (a b c : Bool) → ((not a || not b) || c) ≡ false → (a ≡ true) × (b ≡ true)
both_true true true c h = (refl, refl)
both_true true false c h = absurd (false≢true (sym h))
both_true false b c h = absurd (false≢true (sym h))

load_fine : (d : Design) (name : List ℕ) → is_net_origin d name ≡ false → (split : Split) → is_within (net_load d split name) ≡ true
load_fine d name fine Early =
    (both_true (is_within (net_load d Early name)) (is_within (net_load d Late name)) (option_map_or (is_large_rc d) (rc_of d name) false) fine).0
load_fine d name fine Late =
    (both_true (is_within (net_load d Early name)) (is_within (net_load d Late name)) (option_map_or (is_large_rc d) (rc_of d name) false) fine).1

pub wide_as : (s : Stored) (net : ℕ) (rc : NetRc) → option_and_then (rc_of s.design) (name_at s.nets net) ≡ Some rc → is_wide_net s net ≡ is_net_origin s.design rc.net
wide_as s net rc its = ap (λ o. option_map_or (is_net_origin s.design) o false) (named_by s.design (name_at s.nets net) rc its)

module _ (s : Stored) (num : IsNumbered s) (linked : IsLinked s.design) (net : ℕ) (rc : NetRc) (items : List ℕ)
    (sound : IsSoundNets s) (its : option_and_then (rc_of s.design) (name_at s.nets net) ≡ Some rc) (each : IsOnNet s net items) where
  named : name_at s.nets net ≡ Some rc.net
  named = named_by s.design (name_at s.nets net) rc its

  there : rc_of s.design rc.net ≡ Some rc
  there = sym (ap (option_and_then (rc_of s.design)) named) ∙ its

  -- the driver is among the pins
  pub some_root : find (drives_at s) items ≡ None → ⊥
  some_root none =
      let root = has_driver s.design sound.data_sound rc (rc_in s.design rc.net rc there) in
      let within : Contains (pins s.design) root.0 = found_in (λ (p : Pin). is_driver p && is_on rc.net p) (pins s.design) root.0 root.1 in
      let both = and_parts (is_driver root.0) (is_on rc.net root.0) (found_passes (λ (p : Pin). is_driver p && is_on rc.net p) (pins s.design) root.0 root.1) in
      let on = number_on s num linked net rc.net named root.0 (in_filter (is_on rc.net) (pins s.design) root.0 within both.1) in
      let c : Contains items (number s num linked root.0) = counted_in (number s num linked root.0) items (each (number s num linked root.0) ∙ ap (λ b. if b then 1 else 0) on.1) in
      let drives : drives_at s (number s num linked root.0) ≡ true = ap (λ o. option_map_or is_driver o false) (numbered s num linked root.0 within).pin ∙ both.0 in
      found_some (drives_at s) items (number s num linked root.0) c drives (record { item = number s num linked root.0; within = c; passes = drives }) none

  pub tree_net : (root : ℕ) → find (drives_at s) items ≡ Some root → is_lumped rc ≡ false → IsTreeNet s rc root items
  tree_net root e spread =
      record {
        sound = sound;
        net = net;
        name = named;
        its = there;
        ress = spread;
        each = each;
        rooted = found_in (drives_at s) items root e;
        drives = found_passes (drives_at s) items root e;
      }

module _ (s : Stored) (num : IsNumbered s) (linked : IsLinked s.design) (rc : NetRc) (root : ℕ) (items : List ℕ) (t : IsTreeNet s rc root items) where
  -- each pin is a node of a tree
  pub all_nodes : (split : Split) (told : Told) → IsTreeOf rc (pin_word s root) (map (pin_cap_at s split) items) told
      → All (λ pin. is_node told.nodes (rc_pin (unwrap_or (name_at s.pins pin) [])) ≡ true) items
  all_nodes split told is =
      All-from_get_or (λ pin. is_node told.nodes (rc_pin (unwrap_or (name_at s.pins pin) [])) ≡ true) items 0
      (λ i low. one (get_or items i 0) (Contains-get_or items i 0 low))
    where
      one : (n : ℕ) → Contains items n → is_node told.nodes (rc_pin (pin_word s n)) ≡ true
      one n c =
          let p = on_number s num linked t.net rc.net t.name n (counted_on s t.net items t.each n c) in
          let word : pin_word s n ≡ name_of p.0 = ap (λ o. unwrap_or o []) p.1.name in
          is.members (rc_pin (pin_word s n))
          ∙ ap (λ ns. is_node ns (rc_pin (pin_word s n))) (tree_list_is s num linked rc root items t split)
          ∙ any_in (same_rc (rc_pin (pin_word s n))) (rc_pin (pin_word s root) ∷ named_nodes rc) (root_node p.0)
          (later_in (rc_pin (pin_word s root)) (named_nodes rc) (root_node p.0) (pin_named_there s num linked rc root items t p.0 p.3))
          (ap (λ w. same_rc (rc_pin (pin_word s n)) (rc_pin w)) (sym word) ∙ same_rc_self (rc_pin (pin_word s n)))

  in_range : is_net_origin s.design rc.net ≡ false → (split : Split) → is_out_of_range rc (pin_word s root) (map (pin_cap_at s split) items) ≡ false
  in_range fine Early =
      false_from_ne_true (is_out_of_range rc (pin_word s root) (map (pin_cap_at s Early) items))
      (λ h. false≢true (sym fine ∙ early_origin s num linked rc root items t h))
  in_range fine Late =
      false_from_ne_true (is_out_of_range rc (pin_word s root) (map (pin_cap_at s Late) items))
      (λ h. false≢true (sym fine ∙ late_origin s num linked rc root items t h))

  module _ (net : ℕ) (its : option_and_then (rc_of s.design) (name_at s.nets net) ≡ Some rc) (each : IsOnNet s net items)
      (trees : NetTrees) (are : AreTrees s rc root items trees) (fine : is_net_origin s.design rc.net ≡ false) where
    its_name : name_at s.nets net ≡ Some rc.net
    its_name = named_by s.design (name_at s.nets net) rc its

    pub tree_load : (load : NetLoad) → load.early.0 ≡ trees.early.load → load.late.0 ≡ (late_of trees).load → IsNetLoad s net load
    tree_load load early late = record { is = told; within = λ split name e. ap (λ n. is_within (net_load s.design split n)) (some_is (sym e ∙ its_name)) ∙ load_fine s.design rc.net fine split }
      where
        told : (split : Split) (name : List ℕ) → name_at s.nets net ≡ Some name → split_load split load ≡ net_load s.design split name
        told Early name e = early ∙ are.early.load ∙ load_is s num linked rc root items t Early ∙ ap (net_load s.design Early) (some_is (sym its_name ∙ e))
        told Late name e = late ∙ are.late.load ∙ load_is s num linked rc root items t Late ∙ ap (net_load s.design Late) (some_is (sym its_name ∙ e))

    pub tree_wires : (old wires : List (Option PinWire)) → length wires ≡ length old
        → ((pin : ℕ) → Contains items pin → HasWire s rc (pin_word s root) (λ split. map (pin_cap_at s split) items) wires pin)
        → ((other : ℕ) → list_any (nat_eq other) items ≡ false → wire_at wires other ≡ wire_at old other)
        → AreNetWires s net old wires
    tree_wires old wires len put kept = record { len = len; wired = λ bare. wired; kept = others }
      where
        among : (pin : ℕ) → net_number s pin ≡ Some net → Contains items pin
        among pin on =
            let sits : is_on_number s net pin ≡ true = ap (λ o. option_map_or (nat_eq net) o false) on ∙ eq-eqb net net refl in
            counted_in pin items (each pin ∙ ap (λ b. if b then 1 else 0) sits)

        wired : (pin : ℕ) (to from : Pin) → pin_numbered s pin ≡ Some to → net_number s pin ≡ Some net → is_driver to ≡ false → Contains (driver_on s.design (net_of to)) from
            → IsWire s.design from to (wire_at wires pin)
        wired pin to from told on sinks led =
            let k = net_of_number s pin net to told on in
            let sits : net_of to ≡ Some rc.net = k.on ∙ sym k.told ∙ its_name in
            let h = put pin (among pin on) in
            subst (λ (o : Option PinWire). IsWire s.design from to o) (sym h.there)
            (wired_to s num linked rc root items t h.wire to from pin (pin_of_number s num linked pin to told) sits led h.sinks (in_range fine))

        others : (pin n : ℕ) → net_number s pin ≡ Some n → (n ≡ net → ⊥) → wire_at wires pin ≡ wire_at old pin
        others pin n on apart =
            kept pin (false_from_ne_true (list_any (nat_eq pin) items)
            (λ h.
            let r = any_back (nat_eq pin) items h in
            let sits : is_on_number s net pin ≡ true = ap (is_on_number s net) (eqb-true pin r.item r.passes) ∙ counted_on s net items each r.item r.within in
            apart (sym (eqb-true net n (sym (ap (λ o. option_map_or (nat_eq net) o false) on) ∙ sits)))))
