-- The checks of a whole design, in the order in which one is named: too large, many drivers, a loop,
-- a clock network that is no tree, dangling constraints, parasitics that are no tree or whose pins
-- differ, an overflow. Names are the least by bytes; a loop and an overflow's origin are free.

use Rattle.std.specs.Prelude.{ℕ, ◌≡◌, ◌⊎◌, nat_eq, Bool, true, false, not, ◌&&◌, ◌||◌, if◌then◌else◌, List, [], ◌∷◌, ◌++◌, map, filter, length, Option, Some, None, Ok, Err, find, option_map, is_some, is_none}
use Rattle.std.specs.List.{list_any, list_all, flat_map, filter_map}
use Rattle.std.specs.Option.{option_map_or}
use Rattle.std.specs.Str.{bytes_eq}
use Rattle.timing_defs.specs.declared.kinds.Split.TheVariants.{Late}
use Rattle.timing_defs.specs.declared.kinds.Dir.{Dir}
use Rattle.timing_defs.specs.declared.kinds.Dir.TheVariants.{Input, Output}
use Rattle.timing_defs.specs.declared.library.CellArc.{CellArc}
use Rattle.timing_defs.specs.declared.constraints.Object.{Object}
use Rattle.timing_defs.specs.declared.constraints.Object.TheVariants.{Clock as clock_object, Port as port_object, Pin as pin_object, Cell as cell_object, Any}
use Rattle.timing_defs.specs.declared.constraints.Exception.{Exception}
use Rattle.timing_defs.specs.declared.netlist.Inst.{Inst}
use Rattle.timing_defs.specs.declared.netlist.Port.{Port}
use Rattle.timing_defs.specs.declared.design.Design.{Design}
use Rattle.timing_defs.specs.declared.edits.Eco.{Eco}
use Rattle.timing_defs.specs.declared.faults.Fault.{Fault}
use Rattle.timing_defs.specs.declared.faults.Fault.TheVariants.{Loop, ClockNotTree, ConstraintDangling, RcNotTree, RcPinsDiffer, OutOfRange}
use Rattle.timing_defs.specs.Netlist.{Pin, name_of, same_tran, same_dir, cell_of, inst_pins, pins, pin_named, net_of, is_driver, are_distinct}
use Rattle.timing_defs.specs.Edits.{has_colon, edited, inst_named}
use Rattle.timing_defs.specs.Names.{as_pin}
use Rattle.timing_defs.specs.NetChecks.{is_before, least, is_tree, nets_where, pins_agree, first_of_two, net_fault}
use Rattle.timing_rules.specs.Clocking.{cell_arcs, comb_joins, pins_before, sinks_on, is_network, is_clock_port}
use Rattle.timing_rules.specs.Range.{is_origin}
use Rattle.timing_rules.specs.Rules.{is_clock_name}

-- the pins to which a net arc, or a combinational or edge arc of the cell, leads from a pin
abbrev pub arc_joins : Pin → Pin → CellArc → Bool
arc_joins from to arc = bytes_eq arc.from from.own && bytes_eq arc.to to.own

abbrev pub cell_after : Design → Pin → Inst → List Pin
cell_after d from inst =
    filter (λ to. list_any (arc_joins from to) (cell_arcs (cell_of d Late inst))) (inst_pins d inst)

abbrev pub walks_to : Design → Pin → List Pin
walks_to d from =
    (if is_driver from then sinks_on d (net_of from) else []) ++ option_map_or (cell_after d from) from.owner []

abbrev pub leads : Design → List ℕ → List ℕ → Bool
leads d from to =
    option_map_or (λ pin. list_any (λ next. bytes_eq (name_of next) to) (walks_to d pin)) (pin_named d from) false

abbrev pub leads_along : Design → List ℕ → List ℕ → List (List ℕ) → Bool
leads_along d first from [] = leads d from first
leads_along d first from (to ∷ more) = leads d from to && leads_along d first to more

-- a cycle without repeated pins, in arc order, from its least pin
abbrev pub is_loop : Design → List (List ℕ) → Bool
is_loop d [] = false
is_loop d (first ∷ more) =
    are_distinct (first ∷ more) && leads_along d first first more && list_all (λ name. not (is_before name first)) more

-- a network pin other than a clock port has one network pin before it, and all cell arcs from that
-- have one sense
abbrev pub network_before : Design → Pin → List Pin
network_before d pin = filter (is_network d) (pins_before d pin)

abbrev pub keeps : CellArc → Bool
keeps arc = same_tran arc.from_tran arc.to_tran

abbrev pub arcs_between : Design → Pin → Pin → List CellArc
arcs_between d from to = option_map_or (λ inst. filter (comb_joins from to) (cell_arcs (cell_of d Late inst))) to.owner []

abbrev pub one_sense : List CellArc → Bool
one_sense arcs = list_all keeps arcs || list_all (λ arc. not (keeps arc)) arcs

abbrev pub enters_well : Design → Pin → Bool
enters_well d pin =
    nat_eq (length (network_before d pin)) 1
    && list_all (λ from. not (is_driver pin) || one_sense (arcs_between d from pin)) (network_before d pin)

abbrev pub breaks_network : Design → Pin → Bool
breaks_network d pin = is_network d pin && not (is_clock_port d pin) && not (enters_well d pin)

abbrev pub clock_not_tree : Design → Option (List ℕ)
clock_not_tree d = least (map name_of (filter (breaks_network d) (pins d)))

-- constraints name ports of the right direction, and pins and instances that are there
abbrev pub port_named : Design → List ℕ → Option Port
port_named d name = find (λ port. bytes_eq port.name name) d.ports

abbrev pub is_port : Design → Dir → List ℕ → Bool
is_port d dir name = option_map_or (λ port. same_dir port.dir dir) (port_named d name) false

abbrev pub is_inst : Design → List ℕ → Bool
is_inst d name = is_some (inst_named d.insts name)

abbrev pub is_pin : Design → List ℕ → Bool
is_pin d name = is_some (pin_named d name)

-- a word of no written kind is a clock, or stands for the port, pin and cell of its name that are there
abbrev pub is_any : Design → Dir → List ℕ → Bool
is_any d dir name =
    is_clock_name d.constraints.clocks name
    || option_map_or (λ port. same_dir port.dir dir) (port_named d name) (is_pin d (as_pin name) || is_inst d name)

abbrev pub dangling_object : Design → Dir → Object → Option (List ℕ)
dangling_object d dir (clock_object name) = None
dangling_object d dir (port_object name) = (if is_port d dir name then None else Some name)
dangling_object d dir (pin_object name) = (if has_colon name && is_pin d name then None else Some name)
dangling_object d dir (cell_object name) = (if is_inst d name then None else Some name)
dangling_object d dir (Any name) = (if is_any d dir name then None else Some name)

abbrev pub dangling_objects : Design → Dir → Option (List Object) → List (List ℕ)
dangling_objects d dir objects = option_map_or (filter_map (dangling_object d dir)) objects []

abbrev pub dangling_exception : Design → Exception → List (List ℕ)
dangling_exception d x = dangling_objects d Input x.from ++ dangling_objects d Output x.to

abbrev pub not_ports : Design → Dir → List (List ℕ) → List (List ℕ)
not_ports d dir names = filter (λ name. not (is_port d dir name)) names

abbrev pub dangling : Design → Option (List ℕ)
dangling d =
    least
    (not_ports d Input (filter_map (λ clock. clock.port) d.constraints.clocks)
    ++ not_ports d Input (map (λ i. i.port) d.constraints.inputs)
    ++ not_ports d Input (map (λ s. s.port) d.constraints.slews)
    ++ not_ports d Output (map (λ o. o.port) d.constraints.outputs)
    ++ filter (λ name. is_none (port_named d name)) (map (λ l. l.port) d.constraints.loads)
    ++ flat_map (dangling_exception d) d.constraints.exceptions)

abbrev pub rc_not_tree : Design → Option (List ℕ)
rc_not_tree d = least (nets_where (λ rc. not (is_tree d rc)) d)

abbrev pub rc_pins_differ : Design → Option (List ℕ)
rc_pins_differ d = least (nets_where (λ rc. not (pins_agree d rc)) d)

abbrev pub data_fault : Design → Option Fault
data_fault d =
    first_of_two (option_map ClockNotTree (clock_not_tree d))
    (first_of_two (option_map ConstraintDangling (dangling d))
    (first_of_two (option_map RcNotTree (rc_not_tree d)) (option_map RcPinsDiffer (rc_pins_differ d))))

-- the fault that stands, or else a further one
abbrev pub Standing : Option Fault → Fault → Type 0 → Type 0
Standing (Some y) x Further = x ≡ y
Standing None x Further = Further

abbrev pub HasNoLoop : Design → Type 0
HasNoLoop d = (names : List (List ℕ)) → is_loop d names ≡ false

abbrev pub IsOverflow : Design → Fault → Type 0
IsOverflow d (OutOfRange place) = is_origin d place ≡ true
IsOverflow d x = ⊥

abbrev pub IsGraphFault : Design → Fault → Type 0
IsGraphFault d (Loop names) = is_loop d names ≡ true
IsGraphFault d x = HasNoLoop d × Standing (data_fault d) x (IsOverflow d x)

-- `x` has the first code that stands in the design, and is one fault of that code
abbrev pub Faulty : Design → Fault → Type 0
Faulty d x = Standing (net_fault d) x (IsGraphFault d x)

-- an ECO is accepted where its edits have no fault and nothing is faulty after them; it is refused by the first fault
-- of its edits, or by a fault of the design after them
abbrev pub Accepts : Design → Eco → Design → Type 0
Accepts d eco d2 = (edited d eco ≡ Ok d2) × ((x : Fault) → Faulty d2 x → ⊥)

abbrev pub Refuses : Design → Eco → Fault → Type 0
Refuses d eco x = (edited d eco ≡ Err x) ⊎ ((d2 : Design) × (edited d eco ≡ Ok d2) × Faulty d2 x)

-- a design is sound where nothing but an overflow stands in it
abbrev pub IsSound : Design → Type 0
IsSound d = (net_fault d ≡ None) × HasNoLoop d × (data_fault d ≡ None)
