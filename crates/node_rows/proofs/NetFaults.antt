-- What a design without faults of its nets and data has: one driver of a net, and parasitics that are
-- trees over the pins of their nets.

use Rattle.std.proofs.Common.{◌≡◌, ℕ, Bool, true, false, not, List, filter, length, Option, None, Some, refl, sym, ap, subst, ◌∙◌}
use Rattle.std.specs.Prelude.{nat_lt, is_some, option_map, ◌&&◌, ◌||◌, if◌then◌else◌, Contains}
use Rattle.std.specs.List.{list_all}
use Rattle.std.specs.Option.{option_map_or}
use Rattle.std.proofs.lemmas.Bool.{false≢true, and_parts, not-true, false_from_ne_true}
use Rattle.timing_defs.specs.declared.parasitics.NetRc.{NetRc}
use Rattle.timing_defs.specs.declared.design.Design.{Design}
use Rattle.timing_defs.specs.declared.faults.Fault.{Fault}
use Rattle.timing_defs.specs.declared.faults.Fault.TheVariants.{TooLarge, ManyDrivers, ClockNotTree, ConstraintDangling, RcNotTree, RcPinsDiffer}
use Rattle.timing_defs.specs.declared.faults.Large.TheVariants.{Pins, Insts, Nets, Net as large_net}
use Rattle.timing_defs.specs.Netlist.{Pin, pins, is_on, driver}
use Rattle.timing_defs.specs.Wires.{is_lumped, path_between, root_node}
use Rattle.timing_defs.specs.NetChecks.{least, most, nets_where, large, is_large_net, many_drivers, has_cycle, reaches_all, is_tree, named_nodes, is_pin_of, has_resistor, pins_agree, first_of_two, net_fault}
use Rattle.timing_rules.specs.Checks.{clock_not_tree, dangling, rc_not_tree, rc_pins_differ, data_fault}
use Rattle.timing_defs.proofs.Members.{none_in, in_map, in_filter}
use Rattle.store_pins.proofs.DriverLaws.{none_least}

-- the parts of no fault
neither : (a b : Option Fault) → first_of_two a b ≡ None → (a ≡ None) × (b ≡ None)
neither None b e = (refl, e)
neither (Some x) b e = absurd (cc)

unmapped : {X Y : Type 0} (f : X → Y) (o : Option X) → option_map f o ≡ None → o ≡ None
unmapped f None e = refl
unmapped f (Some x) e = absurd (cc)

-- where no net is named, none of the parasitics passes
none_named : (test : NetRc → Bool) (d : Design) → least (nets_where test d) ≡ None → (rc : NetRc) → Contains d.rcs rc → test rc ≡ false
none_named test d e rc c =
    false_from_ne_true (test rc) (λ h. none_in rc.net (subst (λ (xs : List (List ℕ)). Contains xs rc.net) (none_least (nets_where test d) e)
    (in_map (λ (r : NetRc). r.net) (filter test d.rcs) rc (in_filter test d.rcs rc c h))))

-- too large: the parts
not_large : (a b c : Bool) (o : Option (List ℕ))
    → (if a then Some Pins else (if b then Some Insts else (if c then Some Nets else option_map large_net o))) ≡ None → o ≡ None
not_large true b c o e = absurd (cc)
not_large false true c o e = absurd (cc)
not_large false false true o e = absurd (cc)
not_large false false false o e = unmapped large_net o e

module _ (d : Design) (fault : net_fault d ≡ None) where
  pub small_net : (rc : NetRc) → Contains d.rcs rc → is_large_net d rc ≡ false
  small_net rc c =
      let none : large d ≡ None = unmapped TooLarge (large d) (neither (option_map TooLarge (large d)) (option_map ManyDrivers (many_drivers d)) fault).0 in
      none_named (is_large_net d) d
      (not_large (nat_lt most (length (pins d))) (nat_lt most (length d.insts)) (nat_lt most (length d.nets)) (least (nets_where (is_large_net d) d)) none) rc c

-- the parasitics of a net are a tree over its pins
pub record IsRcTree (d : Design) (rc : NetRc) (root : Pin) : Type 0 where
  pub drives : driver d rc.net ≡ Some root
  pub acyclic : has_cycle rc ≡ false
  pub reached : list_all (λ node. is_some (path_between rc.ress (root_node root) node)) (named_nodes rc) ≡ true
  pub named : list_all (is_pin_of d rc.net) (named_nodes rc) ≡ true
  pub placed : list_all (has_resistor rc) (filter (is_on rc.net) (pins d)) ≡ true

module _ (d : Design) (fault : data_fault d ≡ None) (rc : NetRc) (within : Contains d.rcs rc) where
  abbrev last_faults : Option Fault
  last_faults = first_of_two (option_map RcNotTree (rc_not_tree d)) (option_map RcPinsDiffer (rc_pins_differ d))

  no_rc_fault : (option_map RcNotTree (rc_not_tree d) ≡ None) × (option_map RcPinsDiffer (rc_pins_differ d) ≡ None)
  no_rc_fault =
      neither (option_map RcNotTree (rc_not_tree d)) (option_map RcPinsDiffer (rc_pins_differ d))
      (neither (option_map ConstraintDangling (dangling d)) last_faults
      (neither (option_map ClockNotTree (clock_not_tree d)) (first_of_two (option_map ConstraintDangling (dangling d)) last_faults) fault).1).1

  true_of : (b : Bool) → not b ≡ false → b ≡ true
  true_of true h = refl
  true_of false h = absurd (false≢true (sym h))

  pub tree_is : is_tree d rc ≡ true
  tree_is = true_of (is_tree d rc) (none_named (λ r. not (is_tree d r)) d (unmapped RcNotTree (rc_not_tree d) no_rc_fault.0) rc within)

  agree_is : pins_agree d rc ≡ true
  agree_is = true_of (pins_agree d rc) (none_named (λ r. not (pins_agree d r)) d (unmapped RcPinsDiffer (rc_pins_differ d) no_rc_fault.1) rc within)

  -- a net with parasitics has a driver
  pub has_driver : (root : Pin) × (driver d rc.net ≡ Some root)
  has_driver = by (driver d rc.net) refl
    where
      by : (o : Option Pin) → driver d rc.net ≡ o → (root : Pin) × (driver d rc.net ≡ Some root)
      by None e = absurd (false≢true (sym (ap (λ o. option_map_or (λ root. is_lumped rc || (not (has_cycle rc) && reaches_all rc root)) o false) e) ∙ tree_is))
      by (Some p) e = (p, e)

  pub rc_tree_is : (root : Pin) → driver d rc.net ≡ Some root → is_lumped rc ≡ false → IsRcTree d rc root
  rc_tree_is root e spread =
      let whole : (not (has_cycle rc) && reaches_all rc root) ≡ true =
      sym (ap (λ b. b || (not (has_cycle rc) && reaches_all rc root)) spread)
      ∙ sym (ap (λ o. option_map_or (λ r. is_lumped rc || (not (has_cycle rc) && reaches_all rc r)) o false) e) ∙ tree_is in
      let parts = and_parts (not (has_cycle rc)) (reaches_all rc root) whole in
      let both = and_parts (list_all (is_pin_of d rc.net) (named_nodes rc)) (is_lumped rc || list_all (has_resistor rc) (filter (is_on rc.net) (pins d))) agree_is in
      record {
        drives = e;
        acyclic = not-true (has_cycle rc) parts.0;
        reached = parts.1;
        named = both.0;
        placed = sym (ap (λ b. b || list_all (has_resistor rc) (filter (is_on rc.net) (pins d))) spread) ∙ both.1;
      }
