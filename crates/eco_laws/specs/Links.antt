-- The numbers between which arcs lead, by the names of a store's pins.

use Rattle.std.specs.Prelude.{ℕ, List, [], if◌then◌else◌, Option, Some, None, option_and_then}
use Rattle.std.specs.List.{filter_map}
use Rattle.std.specs.Option.{option_map_or}
use Rattle.timing_defs.specs.declared.kinds.Split.TheVariants.{Late}
use Rattle.timing_defs.specs.declared.library.CellArc.{CellArc}
use Rattle.timing_defs.specs.declared.library.CellTest.{CellTest}
use Rattle.timing_defs.specs.declared.netlist.Inst.{Inst}
use Rattle.timing_defs.specs.Netlist.{Pin, name_of, full_name, net_of, is_driver, driver, cell_of}
use Rattle.timing_rules.specs.Clocking.{cell_arcs, cell_tests}
use Rattle.netlist_store.specs.Numbering.{Stored, number_of, inst_numbered, pin_numbered}

-- the number of a pin of an instance, by its name in the cell
abbrev pub own_number : Stored → Inst → List ℕ → Option ℕ
own_number s inst own = number_of s.pins (full_name (Some inst) own)

-- the number of a net's driver, and that from which a net arc leads to a pin
abbrev pub driver_number : Stored → List ℕ → Option ℕ
driver_number s net = option_and_then (λ pin. number_of s.pins (name_of pin)) (driver s.design net)

abbrev pub number_before : Stored → Pin → Option ℕ
number_before s pin = (if is_driver pin then None else option_and_then (driver_number s) (net_of pin))

abbrev pub before_number : Stored → ℕ → Option ℕ
before_number s n = option_and_then (number_before s) (pin_numbered s n)

-- what is made of each arc of an instance's cell and of the numbers of its ends, in the late library
abbrev pub arcs_made : {Y : Type 0} → (CellArc → Option ℕ → Option ℕ → Option Y) → Stored → Inst → List Y
arcs_made make s inst =
    filter_map (λ arc. make arc (own_number s inst arc.from) (own_number s inst arc.to)) (cell_arcs (cell_of s.design Late inst))

abbrev pub arcs_made_at : {Y : Type 0} → (CellArc → Option ℕ → Option ℕ → Option Y) → Stored → ℕ → List Y
arcs_made_at make s n = option_map_or (arcs_made make s) (inst_numbered s n) []

-- and of each test, and of the numbers of its clock pin and its data pin
abbrev pub tests_made : {Y : Type 0} → (CellTest → Option ℕ → Option ℕ → Option Y) → Stored → Inst → List Y
tests_made make s inst =
    filter_map (λ test. make test (own_number s inst test.clock) (own_number s inst test.pin)) (cell_tests (cell_of s.design Late inst))

abbrev pub tests_made_at : {Y : Type 0} → (CellTest → Option ℕ → Option ℕ → Option Y) → Stored → ℕ → List Y
tests_made_at make s n = option_map_or (tests_made make s) (inst_numbered s n) []
