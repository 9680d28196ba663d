-- What an ECO leaves of a net that it does not touch: its driver and sinks as they are seen, its load, its wires, and its range.

use Rattle.std.proofs.Common.{◌≡◌, ℕ, Bool, true, false, List, [], ◌∷◌, ◌++◌, map, filter, Option, None, Some, refl, sym, ap, ◌∙◌, not, if◌then◌else◌}
use Rattle.std.specs.Prelude.{ℤ, pos, ◌*ℤ◌, ◌+ℤ◌, nat_abs, find, option_map, ◌||◌, ◌&&◌}
use Rattle.std.specs.List.{list_all, flat_map}
use Rattle.std.specs.Option.{option_map_or}
use Rattle.std.specs.Str.{bytes_eq}
use Rattle.sta_units.specs.Numbers.{is_within, root_of}
use Rattle.timing_defs.specs.declared.kinds.Split.{Split}
use Rattle.timing_defs.specs.declared.kinds.Split.TheVariants.{Early, Late}
use Rattle.timing_defs.specs.declared.parasitics.NetRc.{NetRc}
use Rattle.timing_defs.specs.declared.parasitics.RcCap.{RcCap}
use Rattle.timing_defs.specs.declared.parasitics.RcNode.{RcNode}
use Rattle.timing_defs.specs.declared.parasitics.RcNode.TheVariants.{Pin as rc_pin}
use Rattle.timing_defs.specs.declared.design.Design.{Design}
use Rattle.timing_defs.specs.declared.faults.Place.TheVariants.{Net as at_net}
use Rattle.timing_defs.specs.Netlist.{Pin, name_of, driver, drivers, sinks, library_of}
use Rattle.timing_defs.specs.Wires.{sum_of, res_of, pin_cap, rc_of, charges, rc_load, net_load, is_lumped, impulse, elmore, root_node, wire_delay, wire_slew}
use Rattle.timing_rules.specs.Range.{rc_nodes, wires_within, net_wires_within, is_large_rc, is_net_origin, is_origin}
use Rattle.timing_defs.proofs.SameNames.{same_is}
use Rattle.timing_defs.proofs.Members.{found_passes}
use Rattle.netlist_store.proofs.SeenPins.{seen, seen_on}
use Rattle.netlist_store.proofs.Untouched.{IsLeft, IsFramed}
use Rattle.eco_laws.specs.Seen.{seen_root, drives_seen, cap_seen, charge_seen}
use Rattle.eco_laws.proofs.SeenLaws.{root_is, caps_are, charges_are, driver_is, drivers_are, sinks_are}

-- the libraries and constraints
module _ (d d2 : Design) (framed : IsFramed d d2) where
  pub library_left : (split : Split) → library_of d2 split ≡ library_of d split
  library_left Early = framed.early
  library_left Late = framed.late

module _ (net : List ℕ) (d d2 : Design) (left : IsLeft net d d2) (framed : IsFramed d d2) where
  pub driver_left : option_map seen (driver d2 net) ≡ option_map seen (driver d net)
  driver_left = driver_is net d2 ∙ ap (find drives_seen) left.seen ∙ sym (driver_is net d)

  pub drivers_left : map seen (drivers d2 net) ≡ map seen (drivers d net)
  drivers_left = drivers_are net d2 ∙ ap (filter drives_seen) left.seen ∙ sym (drivers_are net d)

  pub sinks_left : map seen (sinks d2 net) ≡ map seen (sinks d net)
  sinks_left = sinks_are net d2 ∙ ap (filter (λ s. not (drives_seen s))) left.seen ∙ sym (sinks_are net d)

  pub rc_left : rc_of d2 net ≡ rc_of d net
  rc_left = left.rc

  -- what is said of the net's parasitics, where it has some
  pub over_rc : {X : Type 0} (f2 f : NetRc → X) (x : X) → ((rc : NetRc) → rc.net ≡ net → f2 rc ≡ f rc)
      → option_map_or f2 (rc_of d2 net) x ≡ option_map_or f (rc_of d net) x
  over_rc f2 f x each = ap (λ o. option_map_or f2 o x) left.rc ∙ by (rc_of d net) refl
    where
      by : (o : Option NetRc) → rc_of d net ≡ o → option_map_or f2 o x ≡ option_map_or f o x
      by None e = refl
      by (Some rc) e = each rc (same_is rc.net net (found_passes (λ (r : NetRc). bytes_eq r.net net) d.rcs rc e))

  module _ (rc : NetRc) (same : rc.net ≡ net) where
    seen_same : seen_on d2 rc.net ≡ seen_on d rc.net
    seen_same = ap (seen_on d2) same ∙ left.seen ∙ sym (ap (seen_on d) same)

    pub charges_left : (split : Split) → charges d2 split rc ≡ charges d split rc
    charges_left split =
        charges_are d2 split rc
        ∙ (λ k. rc.caps ++ map (charge_seen (library_left d d2 framed split k) (framed.constraints k).loads split) (seen_same k))
        ∙ sym (charges_are d split rc)

    roots_same : option_map root_node (driver d2 rc.net) ≡ option_map root_node (driver d rc.net)
    roots_same =
        by (driver d2 rc.net) ∙ ap (option_map seen_root) (driver_is rc.net d2 ∙ ap (find drives_seen) seen_same ∙ sym (driver_is rc.net d))
        ∙ sym (by (driver d rc.net))
      where
        by : (o : Option Pin) → option_map root_node o ≡ option_map seen_root (option_map seen o)
        by None = refl
        by (Some p) = ap Some (root_is p)

    abbrev within_from : List RcCap → List RcNode → Option RcNode → Bool
    within_from charged nodes root = option_map_or (λ r. list_all (λ k. is_within (elmore rc.ress r charged k)) nodes && true) root true

    pub wires_within_left : (split : Split) → wires_within d2 split rc ≡ wires_within d split rc
    wires_within_left split =
        by d2 (driver d2 rc.net)
        ∙ (λ k. within_from (charges_left split k) (flat_map (λ r. r.a ∷ r.b ∷ []) rc.ress ++ map (λ c. c.node) (charges_left split k)) (roots_same k))
        ∙ sym (by d (driver d rc.net))
      where
        by : (e : Design) (o : Option Pin)
            → list_all (λ root. list_all (λ k. is_within (elmore rc.ress (root_node root) (charges e split rc) k))
            (rc_nodes e split rc)) (option_map_or (λ pin. pin ∷ []) o [])
            ≡ within_from (charges e split rc) (rc_nodes e split rc) (option_map root_node o)
        by e None = refl
        by e (Some p) = refl

    pub large_rc_left : is_large_rc d2 rc ≡ is_large_rc d rc
    large_rc_left = λ k. not (is_within (sum_of res_of rc.ress)) || (not (wires_within_left Early k) || not (wires_within_left Late k))

  -- the load of the net
  pub net_load_left : (split : Split) → net_load d2 split net ≡ net_load d split net
  net_load_left split =
      ap (λ x. option_map_or (rc_load d2 split) (rc_of d2 net) x) sinks_same
      ∙ over_rc (rc_load d2 split) (rc_load d split) (sum_of (pin_cap d split) (sinks d net))
      (λ rc same. ap (λ cs. rc.lump.0 +ℤ sum_of (λ c. c.cap.0) cs) (charges_left rc same split))
    where
      sinks_same : sum_of (pin_cap d2 split) (sinks d2 net) ≡ sum_of (pin_cap d split) (sinks d net)
      sinks_same =
          caps_are d2 split (sinks d2 net)
          ∙ (λ k. sum_of (cap_seen (library_left d d2 framed split k) (framed.constraints k).loads split) (sinks_left k))
          ∙ sym (caps_are d split (sinks d net))

  -- the wires between pins of these names
  module _ (from from2 to to2 : Pin) (from_same : name_of from2 ≡ name_of from) (to_same : name_of to2 ≡ name_of to) where
    pub wire_delay_left : (split : Split) → wire_delay d2 split net from2 to2 ≡ wire_delay d split net from to
    wire_delay_left split =
        over_rc (λ rc. elmore rc.ress (root_node from2) (charges d2 split rc) (root_node to2))
        (λ rc. elmore rc.ress (root_node from) (charges d split rc) (root_node to)) (pos 0)
        (λ rc same k. elmore rc.ress (rc_pin (from_same k)) (charges_left rc same split k) (rc_pin (to_same k)))

    pub wire_slew_left : (split : Split) (slew : ℤ) → wire_slew d2 split net from2 to2 slew ≡ wire_slew d split net from to slew
    wire_slew_left split slew =
        over_rc
        (λ rc. if is_lumped rc then slew else pos (root_of (nat_abs (slew *ℤ slew +ℤ impulse rc.ress (root_node from2) (charges d2 split rc) (root_node to2)))))
        (λ rc. if is_lumped rc then slew else pos (root_of (nat_abs (slew *ℤ slew +ℤ
        impulse rc.ress (root_node from) (charges d split rc) (root_node to))))) slew
        (λ rc same k. if is_lumped rc then slew else pos (root_of (nat_abs (slew *ℤ slew +ℤ
        impulse rc.ress (rc_pin (from_same k)) (charges_left rc same split k) (rc_pin (to_same k))))))

  -- the range of the net's quantities
  pub net_wires_within_left : (split : Split) → net_wires_within d2 split (Some net) ≡ net_wires_within d split (Some net)
  net_wires_within_left split = over_rc (wires_within d2 split) (wires_within d split) true (λ rc same. wires_within_left rc same split)

  pub net_origin_left : is_net_origin d2 net ≡ is_net_origin d net
  net_origin_left =
      λ k. (not (is_within (net_load_left Early k)) || not (is_within (net_load_left Late k)))
      || over_rc (is_large_rc d2) (is_large_rc d) false (λ rc same. large_rc_left rc same) k

  pub net_place_left : is_origin d2 (at_net net) ≡ is_origin d (at_net net)
  net_place_left = λ k. left.listed k && net_origin_left k
