-- Checks of all nets, or of some: those that an ECO touched.

use Rattle.std.specs.Prelude.{ℕ, ◌≡◌, true, List, Option, None, Some, option_map, Ok}
use Rattle.std.specs.List.{flat_map}
use Rattle.timing_defs.specs.declared.design.Design.{Design}
use Rattle.timing_defs.specs.declared.edits.Eco.{Eco}
use Rattle.timing_defs.specs.declared.faults.Fault.{Fault}
use Rattle.timing_defs.specs.declared.faults.Fault.TheVariants.{TooLarge, ManyDrivers, ConstraintDangling, RcNotTree, RcPinsDiffer}
use Rattle.timing_defs.specs.declared.faults.Large.TheVariants.{Net as large_net}
use Rattle.timing_defs.specs.Edits.{edited}
use Rattle.timing_defs.specs.Touches.{touched_list}
use Rattle.timing_defs.specs.NetChecks.{least, first_of_two}
use Rattle.timing_rules.specs.Checks.{dangling, dangling_exception, rc_not_tree, rc_pins_differ}
use Rattle.netlist_store.specs.Linked.{IsLinked}
use Rattle.timing_defs.specs.Documents.{is_eco}
use Rattle.design_link.specs.declared.net_tests.NetTest.TheVariants.{TooManyNodes, TooManyDrivers, NoTree, OtherPins}
use Rattle.design_link.specs.Counts.{large_count}
use Rattle.design_link.specs.Failing.{least_among}

-- a design that an ECO made of a base, and the nets that it touched
pub record IsMadeOf (base : Design) (eco : Eco) (nets : List (List ℕ)) (d : Design) : Type 0 where
  pub linked : IsLinked base
  pub is_eco : is_eco eco ≡ true
  pub made : edited base eco ≡ Ok d
  pub touched : (touched_list base eco.edits).nets ≡ nets

-- too large or with many drivers, where the nets that are tested are all or some
abbrev pub net_fault_among : Option (List (List ℕ)) → Design → Option Fault
net_fault_among nets d =
    first_of_two (option_map TooLarge (large_count d))
    (first_of_two (option_map TooLarge (option_map large_net (least_among nets TooManyNodes d)))
    (option_map ManyDrivers (least_among nets TooManyDrivers d)))

-- what constraints name and is not there; where some nets are looked at, of exceptions alone
abbrev pub dangling_among : Option (List (List ℕ)) → Design → Option (List ℕ)
dangling_among None d = dangling d
dangling_among (Some nets) d = least (flat_map (dangling_exception d) d.constraints.exceptions)

-- the faults of the data of a design: dangling constraints, parasitics that are no tree or whose pins differ
abbrev pub link_data_fault : Design → Option Fault
link_data_fault d =
    first_of_two (option_map ConstraintDangling (dangling d))
    (first_of_two (option_map RcNotTree (rc_not_tree d)) (option_map RcPinsDiffer (rc_pins_differ d)))

abbrev pub data_fault_among : Option (List (List ℕ)) → Design → Option Fault
data_fault_among nets d =
    first_of_two (option_map ConstraintDangling (dangling_among nets d))
    (first_of_two (option_map RcNotTree (least_among nets NoTree d)) (option_map RcPinsDiffer (least_among nets OtherPins d)))
