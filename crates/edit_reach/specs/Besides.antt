-- By numbers: the instances of nodes, whether their cells have tests, and the pins of instances and ports.

use Rattle.std.specs.Prelude.{ℕ, Bool, true, false, List, [], ◌∷◌, Option, None, Some, if◌then◌else◌, option_and_then}
use Rattle.std.specs.List.{filter_map}
use Rattle.std.specs.Option.{option_map_or}
use Rattle.timing_defs.specs.declared.kinds.Split.TheVariants.{Late}
use Rattle.timing_defs.specs.declared.library.CellPin.{CellPin}
use Rattle.timing_defs.specs.declared.netlist.Inst.{Inst}
use Rattle.timing_defs.specs.declared.library.CellTest.{CellTest}
use Rattle.timing_defs.specs.Netlist.{cell_of, cell_pins}
use Rattle.timing_rules.specs.Clocking.{cell_tests}
use Rattle.netlist_store.specs.Numbering.{Stored, inst_numbered, owner_number}
use Rattle.pin_graph.specs.Joins.{own_number}
use Rattle.pin_graph.specs.Nodes.{pin_under}

-- the instance of a node's pin
abbrev pub inst_under : Stored → ℕ → Option ℕ
inst_under s node = owner_number s (pin_under node)

abbrev pub is_some_test : List CellTest → Bool
is_some_test [] = false
is_some_test (test ∷ tests) = true

-- whether the cell of an instance has tests; a gap has none
abbrev pub is_tested : Stored → ℕ → Bool
is_tested s n = option_map_or (λ inst. is_some_test (cell_tests (cell_of s.design Late inst))) (inst_numbered s n) false

-- the instance of a node's pin, where its cell has tests
abbrev pub tested_under : Stored → ℕ → Option ℕ
tested_under s node = option_and_then (λ inst. if is_tested s inst then Some inst else None) (inst_under s node)

-- a pin that no instance has
abbrev pub port_of : ℕ → Option ℕ → Option ℕ
port_of pin None = Some pin
port_of pin (Some inst) = None

abbrev pub port_under : Stored → ℕ → Option ℕ
port_under s node = port_of (pin_under node) (inst_under s node)

abbrev pub pins_of_cell : Stored → Inst → List CellPin → List ℕ
pins_of_cell s inst pins = filter_map (λ pin. own_number s inst pin.name) pins

-- the pins of an instance; a gap has none
abbrev pub inst_pins_at : Stored → ℕ → List ℕ
inst_pins_at s n = option_map_or (λ inst. pins_of_cell s inst (cell_pins (cell_of s.design Late inst))) (inst_numbered s n) []
