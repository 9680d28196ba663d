-- Clock networks: the part of the design between the clocks' ports and the registers' clock pins (TAU 2015).

use Rattle.std.specs.Prelude.{ℕ, zero, suc, Bool, false, not, ◌&&◌, ◌||◌, if◌then◌else◌, List, [], ◌++◌, filter, length, Option, Some, None}
use Rattle.std.specs.List.{list_any}
use Rattle.std.specs.Option.{option_map_or, option_to_list}
use Rattle.std.specs.Str.{bytes_eq}
use Rattle.timing_defs.specs.declared.kinds.Split.TheVariants.{Late}
use Rattle.timing_defs.specs.declared.kinds.Dir.TheVariants.{Input}
use Rattle.timing_defs.specs.declared.library.Cell.{Cell}
use Rattle.timing_defs.specs.declared.library.CellArc.{CellArc}
use Rattle.timing_defs.specs.declared.library.CellTest.{CellTest}
use Rattle.timing_defs.specs.declared.constraints.Clock.{Clock}
use Rattle.timing_defs.specs.declared.netlist.Inst.{Inst}
use Rattle.timing_defs.specs.declared.design.Design.{Design}
use Rattle.timing_defs.specs.Netlist.{Pin, cell_of, inst_pins, pins, net_of, driver, sinks, is_driver, same_dir}
use Rattle.timing_defs.specs.Kinds.{is_comb}

abbrev pub cell_arcs : Option Cell → List CellArc
cell_arcs None = []
cell_arcs (Some cell) = cell.arcs

abbrev pub cell_tests : Option Cell → List CellTest
cell_tests None = []
cell_tests (Some cell) = cell.tests

abbrev pub port_has_clock : List Clock → Option Inst → Pin → Bool
port_has_clock clocks None pin =
    same_dir pin.dir Input && list_any (λ clock. option_map_or (bytes_eq pin.own) clock.port false) clocks
port_has_clock clocks (Some inst) pin = false

-- a clock's port is an input port
abbrev pub is_clock_port : Design → Pin → Bool
is_clock_port d pin = port_has_clock d.constraints.clocks pin.owner pin

abbrev pub clocks_cell : Design → List ℕ → Inst → Bool
clocks_cell d own inst =
    list_any (λ arc. not (is_comb arc) && bytes_eq arc.from own) (cell_arcs (cell_of d Late inst))
    || list_any (λ test. bytes_eq test.clock own) (cell_tests (cell_of d Late inst))

-- a register's clock pin: the related pin of an edge arc or of a setup or hold arc
abbrev pub is_clock_pin : Design → Pin → Bool
is_clock_pin d pin = option_map_or (clocks_cell d pin.own) pin.owner false

-- the pins from which a net arc or a combinational arc leads to a pin, and those to which one leads from it
abbrev pub driver_on : Design → Option (List ℕ) → List Pin
driver_on d net = option_map_or (λ name. option_to_list (driver d name)) net []

abbrev pub sinks_on : Design → Option (List ℕ) → List Pin
sinks_on d net = option_map_or (sinks d) net []

abbrev pub comb_joins : Pin → Pin → CellArc → Bool
comb_joins from to arc = is_comb arc && bytes_eq arc.from from.own && bytes_eq arc.to to.own

abbrev pub has_comb : Design → Inst → Pin → Pin → Bool
has_comb d inst from to = list_any (comb_joins from to) (cell_arcs (cell_of d Late inst))

abbrev pub comb_before : Design → Pin → Inst → List Pin
comb_before d to inst = filter (λ from. has_comb d inst from to) (inst_pins d inst)

abbrev pub comb_after : Design → Pin → Inst → List Pin
comb_after d from inst = filter (λ to. has_comb d inst from to) (inst_pins d inst)

abbrev pub pins_before : Design → Pin → List Pin
pins_before d pin =
    (if is_driver pin then option_map_or (comb_before d pin) pin.owner [] else driver_on d (net_of pin))

abbrev pub pins_after : Design → Pin → List Pin
pins_after d pin =
    (if is_driver pin then sinks_on d (net_of pin) else []) ++ option_map_or (comb_after d pin) pin.owner []

-- a clock's port reaches the pin in at most so many steps
abbrev pub from_clock : Design → ℕ → Pin → Bool
from_clock d zero pin = is_clock_port d pin
from_clock d (suc n) pin = is_clock_port d pin || list_any (from_clock d n) (pins_before d pin)

-- the pin reaches a register's clock pin in at most so many steps
abbrev pub to_register : Design → ℕ → Pin → Bool
to_register d zero pin = is_clock_pin d pin
to_register d (suc n) pin = is_clock_pin d pin || list_any (to_register d n) (pins_after d pin)

-- a network pin is one that a clock's port reaches and that reaches a register's clock pin
unfoldable pub is_network : Design → Pin → Bool
is_network d pin = from_clock d (length (pins d)) pin && to_register d (length (pins d)) pin
