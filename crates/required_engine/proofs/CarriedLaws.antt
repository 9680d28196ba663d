-- The loads and the wires of a design in which no quantity of slews and arrivals leaves its limit.

use Rattle.std.proofs.Common.{◌≡◌, ℕ, pos, Bool, true, false, not, List, [], ◌∷◌, map, filter, Option, None, Some, refl, sym, ap, subst, ◌∙◌, inl, inr}
use Rattle.std.specs.Prelude.{Contains, ◌||◌}
use Rattle.std.specs.List.{list_all, flat_map}
use Rattle.std.specs.Option.{option_map_or, option_to_list, unwrap_or}
use Rattle.std.specs.Str.{bytes_eq}
use Rattle.std.proofs.lemmas.Bool.{or_parts, true≢false}
use Rattle.std.proofs.lemmas.List.Elements.{Contains-append_right}
use Rattle.sta_units.specs.Numbers.{is_within}
use Rattle.timing_defs.specs.declared.kinds.Split.{Split}
use Rattle.timing_defs.specs.declared.kinds.Split.TheVariants.{Early, Late}
use Rattle.timing_defs.specs.declared.parasitics.NetRc.{NetRc}
use Rattle.timing_defs.specs.declared.parasitics.RcCap.{RcCap}
use Rattle.timing_defs.specs.declared.parasitics.RcNode.TheVariants.{Pin as rc_pin}
use Rattle.timing_defs.specs.declared.design.Design.{Design}
use Rattle.timing_defs.specs.Netlist.{Pin, Node, name_of, pins, net_of, is_on, driver, is_driver}
use Rattle.timing_defs.specs.Wires.{net_load, load_of, rc_of, charges, elmore, root_node, pin_cap, wire_delay, sum_of, res_of}
use Rattle.timing_rules.specs.Clocking.{driver_on, is_network}
use Rattle.timing_rules.specs.Rows.{arcs_in, all_arcs_in, net_arcs_in, net_name}
use Rattle.timing_rules.specs.Range.{either_split, rc_nodes, wires_within, net_wires_within, is_large_rc, is_loaded}
use Rattle.netlist_store.specs.Linked.{IsLinked}
use Rattle.netlist_store.specs.Numbering.{Stored}
use Rattle.timing_defs.proofs.Members.{all_in, found_passes, first_in, none_in, in_cases, in_map, in_map_back, in_filter, kept_in}
use Rattle.timing_defs.proofs.SameNames.{same_is}
use Rattle.node_rows.proofs.PinSums.{net_listed}
use Rattle.node_rows.proofs.FineLaws.{IsCarried}
use Rattle.pin_graph.specs.RowTables.{AreRowsFine}
use Rattle.pin_graph.proofs.NodeLaws.{HasNode}

not_not : (b : Bool) → not b ≡ false → b ≡ true
not_not true h = refl
not_not false h = absurd (true≢false h)

neither : (f : Split → Bool) → either_split f ≡ false → (split : Split) → f split ≡ false
neither f h Early = (or_parts (f Early) (f Late) h).0
neither f h Late = (or_parts (f Early) (f Late) h).1

none_within : is_within (pos 0) ≡ true
none_within = refl

-- the wire from a net's driver to a pin on the net, where no wire of the net leaves its limit
module _ (d : Design) (split : Split) (name : List ℕ) (root to : Pin) (driven : driver d name ≡ Some root) (listed : Contains (pins d) to)
    (on : net_of to ≡ Some name) where
  module _ (rc : NetRc) (told : rc_of d name ≡ Some rc) (within : wires_within d split rc ≡ true) where
    named : bytes_eq rc.net name ≡ true
    named = found_passes (λ (r : NetRc). bytes_eq r.net name) d.rcs rc told

    root_in : Contains (option_map_or (λ (pin : Pin). pin ∷ []) (driver d rc.net) []) root
    root_in =
        subst (λ o. Contains (option_map_or (λ (pin : Pin). pin ∷ []) o []) root) (sym (ap (driver d) (same_is rc.net name named) ∙ driven)) (first_in root [])

    to_in : Contains (rc_nodes d split rc) (root_node to)
    to_in =
        Contains-append_right (flat_map (λ r. r.a ∷ r.b ∷ []) rc.ress) (map (λ (c : RcCap). c.node) (charges d split rc)) (root_node to)
        (in_map (λ (c : RcCap). c.node) (charges d split rc) (record { node = rc_pin (name_of to); cap = record { 0 = pin_cap d split to } })
        (Contains-append_right rc.caps (map (λ (pin : Pin). record { node = rc_pin (name_of pin); cap = record { 0 = pin_cap d split pin } }) (filter (is_on rc.net) (pins d)))
        (record { node = rc_pin (name_of to); cap = record { 0 = pin_cap d split to } })
        (in_map (λ (pin : Pin). record { node = rc_pin (name_of pin); cap = record { 0 = pin_cap d split pin } }) (filter (is_on rc.net) (pins d)) to
        (in_filter (is_on rc.net) (pins d) to listed (ap (λ o. option_map_or (bytes_eq rc.net) o false) on ∙ named)))))

    elmore_within : is_within (elmore rc.ress (root_node root) (charges d split rc) (root_node to)) ≡ true
    elmore_within =
        all_in (λ k. is_within (elmore rc.ress (root_node root) (charges d split rc) k)) (rc_nodes d split rc) (root_node to)
        (all_in (λ (r : Pin). list_all (λ k. is_within (elmore rc.ress (root_node r) (charges d split rc) k)) (rc_nodes d split rc))
        (option_map_or (λ (pin : Pin). pin ∷ []) (driver d rc.net) []) root within root_in)
        to_in

  wire_within : net_wires_within d split (Some name) ≡ true → is_within (wire_delay d split name root to) ≡ true
  wire_within within = by (rc_of d name) refl within
    where
      by : (o : Option NetRc) → rc_of d name ≡ o → option_map_or (wires_within d split) o true ≡ true
          → is_within (option_map_or (λ rc. elmore rc.ress (root_node root) (charges d split rc) (root_node to)) o (pos 0)) ≡ true
      by None e h = none_within
      by (Some rc) e h = elmore_within rc e h

module _ (s : Stored) (linked : IsLinked s.design) (fine : AreRowsFine s.design) where
  module _ (p : Pin) (c : Contains (pins s.design) p) (name : List ℕ) (on : net_of p ≡ Some name) (split : Split) where
    parts : (either_split (λ t. not (is_within (net_load s.design t name))) ≡ false) × (option_map_or (is_large_rc s.design) (rc_of s.design name) false ≡ false)
    parts =
        or_parts (either_split (λ t. not (is_within (net_load s.design t name)))) (option_map_or (is_large_rc s.design) (rc_of s.design name) false)
        (fine.nets name (net_listed s.design linked p name c on))

    net_loaded : is_within (net_load s.design split name) ≡ true
    net_loaded = not_not (is_within (net_load s.design split name)) (neither (λ t. not (is_within (net_load s.design t name))) parts.0 split)

    net_within : net_wires_within s.design split (Some name) ≡ true
    net_within = by (rc_of s.design name) parts.1
      where
        by : (o : Option NetRc) → option_map_or (is_large_rc s.design) o false ≡ false → option_map_or (wires_within s.design split) o true ≡ true
        by None e = refl
        by (Some rc) e =
            let k = or_parts (not (is_within (sum_of res_of rc.ress))) (either_split (λ t. not (wires_within s.design t rc))) e in
            not_not (wires_within s.design split rc) (neither (λ t. not (wires_within s.design t rc)) k.1 split)

  module _ (to : Node) (k : ℕ) (h : HasNode s to k) (split : Split) where
    loaded : is_loaded s.design split to ≡ true
    loaded = by (net_of to.pin) refl
      where
        by : (o : Option (List ℕ)) → net_of to.pin ≡ o → is_loaded s.design split to ≡ true
        by None e = ap (λ o. is_within (load_of s.design split o)) e ∙ none_within
        by (Some name) e = ap (λ o. is_within (load_of s.design split o)) e ∙ net_loaded to.pin h.has.within name e split

    joined : net_wires_within s.design split (net_of to.pin) ≡ true
    joined = by (net_of to.pin) refl
      where
        by : (o : Option (List ℕ)) → net_of to.pin ≡ o → net_wires_within s.design split (net_of to.pin) ≡ true
        by None e = ap (net_wires_within s.design split) e
        by (Some name) e = ap (net_wires_within s.design split) e ∙ net_within to.pin h.has.within name e split

    along_all : is_driver to.pin ≡ false → (from : Node) → Contains (all_arcs_in s.design to) from
        → is_within (wire_delay s.design split (net_name to.pin) from.pin to.pin) ≡ true
    along_all sinking from c =
        let listed : Contains (net_arcs_in s.design to) from = (rw sinking at c) in
        let m = in_map_back (λ (pin : Pin). record { pin = pin; tran = to.tran }) (driver_on s.design (net_of to.pin)) from listed in
        let same : m.item ≡ from.pin = ap (λ (n : Node). n.pin) m.same in
        ap (λ (p : Pin). is_within (wire_delay s.design split (net_name to.pin) p to.pin)) (sym same) ∙ by (net_of to.pin) refl m.item m.within
      where
        by : (o : Option (List ℕ)) → net_of to.pin ≡ o → (root : Pin) → Contains (driver_on s.design o) root
            → is_within (wire_delay s.design split (net_name to.pin) root to.pin) ≡ true
        by None e root c = absurd (none_in root c)
        by (Some name) e root c = driven (driver s.design name) refl c
          where
            driven : (o : Option Pin) → driver s.design name ≡ o → Contains (option_to_list o) root
                → is_within (wire_delay s.design split (net_name to.pin) root to.pin) ≡ true
            driven None f k = absurd (none_in root k)
            driven (Some pin) f k = elim (in_cases pin [] root k) [
              | inl same ↦
                  ap (λ o. is_within (wire_delay s.design split (unwrap_or o []) root to.pin)) e
                  ∙ wire_within s.design split name root to.pin (f ∙ ap Some same) h.has.within e (net_within to.pin h.has.within name e split)
              | inr none ↦ absurd (none_in root none)
            ]

    along : is_driver to.pin ≡ false → (from : Node) → Contains (arcs_in s.design to) from
        → is_within (wire_delay s.design split (net_name to.pin) from.pin to.pin) ≡ true
    unfolding arcs_in
    along sinking from c =
        along_all sinking from (kept_in (λ f. not (is_network s.design to.pin) || is_network s.design f.pin) (all_arcs_in s.design to) from c)

    pub carried : IsCarried s.design split to
    carried = record { load = λ drives. loaded; wires = λ sinking. joined; delays = along }
