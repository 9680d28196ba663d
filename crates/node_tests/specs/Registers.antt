-- The setup and hold tests of a register's data node, clock pin by clock pin.

use Rattle.std.specs.Prelude.{ℕ, ◌≡◌, ℤ, Bool, false, ◌||◌, List, [], ◌∷◌, Option, Some, option_map, option_and_then}
use Rattle.std.specs.List.{filter_map, list_any}
use Rattle.std.specs.Option.{option_map_or}
use Rattle.timing_defs.specs.declared.kinds.Split.TheVariants.{Early, Late}
use Rattle.timing_defs.specs.declared.kinds.Tran.{Tran}
use Rattle.timing_defs.specs.declared.kinds.Tran.TheVariants.{Rise, Fall}
use Rattle.timing_defs.specs.declared.kinds.Kind.{Kind}
use Rattle.timing_defs.specs.declared.library.CellPin.{CellPin}
use Rattle.timing_defs.specs.declared.netlist.Inst.{Inst}
use Rattle.timing_defs.specs.declared.design.Design.{Design}
use Rattle.timing_defs.specs.Netlist.{Pin, Node, cell_pin, cell_pins, cell_of, both_nodes}
use Rattle.timing_rules.specs.Rows.{arrival, row}
use Rattle.timing_rules.specs.Tests.{Test, network_walk, first_edge, test_on, test_along}
use Rattle.timing_rules.specs.Range.{is_need_origin_at}
use Rattle.netlist_store.specs.Numbering.{Stored, inst_numbered, pin_numbered, owner_number}
use Rattle.pin_graph.specs.Nodes.{node_at, pin_under}
use Rattle.pin_graph.specs.RowTables.{AreRowsFine}
use Rattle.node_tests.specs.declared.needs.TestEnds.{TestEnds}
use Rattle.node_tests.specs.declared.registers.Asked.{Asked}
use Rattle.node_tests.specs.declared.registers.PinTests.{PinTests}
use Rattle.node_tests.specs.NodeTests.{MayBeTest}

-- the test at a clock pin's node that needs this time, where a network walk leads there and both its arrivals are there
abbrev pub captured : Design → Node → ℤ → Option Test
captured d clock need =
    option_and_then (λ walk.
    option_and_then (λ edge.
    option_and_then (λ early. option_map (test_on clock walk edge need early) (arrival d Late clock edge)) (arrival d Early clock edge))
    (first_edge d walk))
    (network_walk d clock)

-- the test of a data node against a clock pin's node
abbrev pub test_at : Design → Kind → Inst → Node → Node → Option Test
test_at d kind inst target clock = option_and_then (test_along d kind inst target clock) (network_walk d clock)

-- the tests against both nodes of a pin of the cell, and whether a setup or hold time leaves its limit there
abbrev pub clock_nodes : Inst → CellPin → List Node
clock_nodes inst pin = both_nodes (cell_pin inst pin)

abbrev pub tests_by : Design → Kind → Inst → Node → CellPin → List Test
tests_by d kind inst target pin = filter_map (test_at d kind inst target) (clock_nodes inst pin)

abbrev pub is_wide_by : Design → Kind → Inst → Node → CellPin → Bool
is_wide_by d kind inst target pin = list_any (is_need_origin_at d kind target inst) (clock_nodes inst pin)

-- the same, where node, instance and clock pin's node may be there
abbrev pub test_with : Design → Kind → Option Node → Option Inst → Option Node → Option Test
test_with d kind target inst clock = option_and_then (λ t. option_and_then (λ i. option_and_then (test_at d kind i t) clock) inst) target

abbrev pub is_wide_with : Design → Kind → Option Node → Option Inst → Option Node → Bool
is_wide_with d kind target inst clock =
    option_map_or (λ t. option_map_or (λ i. option_map_or (is_need_origin_at d kind t i) clock false) inst false) target false

-- the node of a pin of an instance's cell
abbrev pub pin_node : Stored → ℕ → CellPin → Tran → Option Node
pin_node s inst pin tran = option_map (λ i. record { pin = cell_pin i pin; tran = tran }) (inst_numbered s inst)

abbrev pub late_pins : Stored → ℕ → List CellPin
late_pins s inst = cell_pins (option_and_then (cell_of s.design Late) (inst_numbered s inst))

-- a number is that of the pin of an instance with this name in the cell
pub record IsPinOf (s : Stored) (inst : ℕ) (word : List ℕ) (number : ℕ) : Type 0 where
  pub owner : owner_number s number ≡ Some inst
  pub own : option_map (λ (p : Pin). p.own) (pin_numbered s number) ≡ Some word

-- what is asked is the data node of a register, with its row; no quantity of slews leaves its limit
pub record IsAsked (asked : Asked) : Type 0 where
  pub graph : asked.graph.now.stored ≡ asked.store.now
  pub target : Node
  pub node : node_at asked.store.now asked.node ≡ Some target
  pub register : Inst
  pub inst : inst_numbered asked.store.now asked.inst ≡ Some register
  pub owner : target.pin.owner ≡ Some register
  pub pin : asked.pin ≡ pin_under asked.node
  pub tran : asked.tran ≡ target.tran
  pub own : asked.own.now ≡ target.pin.own
  pub row : asked.row.now ≡ row asked.store.now.design target
  pub fine : AreRowsFine asked.store.now.design

-- the test against a clock pin's node, by its number
abbrev pub asked_test : Asked → Option Node → Option Test
asked_test asked clock =
    test_with asked.store.now.design asked.kind (node_at asked.store.now asked.node) (inst_numbered asked.store.now asked.inst) clock

abbrev pub is_asked_wide : Asked → Option Node → Bool
is_asked_wide asked clock =
    is_wide_with asked.store.now.design asked.kind (node_at asked.store.now asked.node) (inst_numbered asked.store.now asked.inst) clock

-- what is found against both nodes of a pin of the cell
pub record ArePinTests (asked : Asked) (pin : CellPin) (found : PinTests) : Type 0 where
  pub rise : MayBeTest asked.store.now found.rise (asked_test asked (pin_node asked.store.now asked.inst pin Rise))
  pub fall : MayBeTest asked.store.now found.fall (asked_test asked (pin_node asked.store.now asked.inst pin Fall))

abbrev pub is_pin_wide : Asked → CellPin → Bool
is_pin_wide asked pin =
    is_asked_wide asked (pin_node asked.store.now asked.inst pin Rise) || is_asked_wide asked (pin_node asked.store.now asked.inst pin Fall)

-- the tests against the pins of a cell
abbrev pub pin_tests_of : Asked → CellPin → List Test
pin_tests_of asked pin =
    filter_map (λ tran. asked_test asked (pin_node asked.store.now asked.inst pin tran)) (Rise ∷ Fall ∷ [])

-- the ends of tests between what is asked and the clock pin's node of a number
pub record IsEnds (asked : Asked) (ends : TestEnds) (number : ℕ) : Type 0 where
  pub kind : ends.kind ≡ asked.kind
  pub pin : ends.pin.now ≡ asked.own.now
  pub tran : ends.tran ≡ asked.tran
  pub node : Node
  pub told : node_at asked.store.now number ≡ Some node
  pub clock : ends.clock.now ≡ node.pin.own
  pub active : ends.active ≡ node.tran
