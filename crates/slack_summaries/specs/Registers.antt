-- The clock pins of registers that are in clock networks, by their numbers.

use Rattle.std.specs.Prelude.{ℕ, Bool, false, not, ◌&&◌, ◌||◌, List, filter, length}
use Rattle.std.specs.List.{list_any, range_with_len}
use Rattle.std.specs.Option.{option_map_or}
use Rattle.std.specs.Str.{bytes_eq}
use Rattle.timing_defs.specs.declared.library.Cell.{Cell}
use Rattle.timing_defs.specs.declared.library.CellArc.{CellArc}
use Rattle.timing_defs.specs.declared.library.CellTest.{CellTest}
use Rattle.timing_defs.specs.declared.design.Design.{Design}
use Rattle.timing_defs.specs.Netlist.{Pin}
use Rattle.timing_defs.specs.Kinds.{is_comb}
use Rattle.timing_rules.specs.Clocking.{is_clock_pin, is_network}
use Rattle.netlist_store.specs.Numbering.{Stored, pin_numbered}

abbrev pub is_edge_from : List ℕ → CellArc → Bool
is_edge_from own arc = not (is_comb arc) && bytes_eq arc.from own

abbrev pub is_clocked_by : List ℕ → CellTest → Bool
is_clocked_by own test = bytes_eq test.clock own

abbrev pub clocks_by : Cell → List ℕ → Bool
clocks_by cell own = list_any (is_edge_from own) cell.arcs || list_any (is_clocked_by own) cell.tests

abbrev pub is_register_pin : Design → Pin → Bool
is_register_pin d pin = is_clock_pin d pin && is_network d pin

abbrev pub in_network : Stored → ℕ → Bool
in_network s pin = option_map_or (is_network s.design) (pin_numbered s pin) false

abbrev pub clocks_pin : Stored → ℕ → Bool
clocks_pin s pin = option_map_or (is_register_pin s.design) (pin_numbered s pin) false

abbrev pub register_pins : Stored → List ℕ
register_pins s = filter (clocks_pin s) (range_with_len 0 (length s.pins))
