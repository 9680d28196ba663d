-- Register pins that are clocked, by the numbers of a store.

use Rattle.std.specs.Prelude.{ℕ, Bool, false, ◌&&◌, List}
use Rattle.std.specs.List.{list_any}
use Rattle.std.specs.Option.{option_map_or}
use Rattle.std.specs.Str.{bytes_eq}
use Rattle.timing_defs.specs.declared.kinds.Kind.{Kind}
use Rattle.timing_defs.specs.declared.library.CellPin.{CellPin}
use Rattle.timing_defs.specs.declared.library.CellTest.{CellTest}
use Rattle.timing_defs.specs.Netlist.{cell_pin}
use Rattle.timing_rules.specs.Clocking.{is_network}
use Rattle.timing_defs.specs.Kinds.{same_kind}
use Rattle.netlist_store.specs.Numbering.{Stored, inst_numbered}

-- a test of the kind stands between a data pin and a clock pin of its cell
abbrev pub is_clocked_test : Kind → List ℕ → List ℕ → CellTest → Bool
is_clocked_test kind own clock test = same_kind test.kind kind && bytes_eq test.pin own && bytes_eq clock test.clock

-- a pin of the cell is on the clock network, and clocks the data pin
abbrev pub is_on_network : Stored → ℕ → CellPin → Bool
is_on_network s inst pin = option_map_or (λ i. is_network s.design (cell_pin i pin)) (inst_numbered s inst) false

abbrev pub is_clocked_by : Stored → Kind → ℕ → List ℕ → List CellTest → CellPin → Bool
is_clocked_by s kind inst own tests pin = list_any (is_clocked_test kind own pin.name) tests && is_on_network s inst pin
