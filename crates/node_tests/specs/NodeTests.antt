-- The tests of a node by the numbers of a store: setup and hold at registers, and output delays at ports.

use Rattle.std.specs.Prelude.{ℕ, ◌≡◌, ⊤, Bool, false, List, [], ◌∷◌, Option, None, Some}
use Rattle.std.specs.Option.{option_map_or}
use Rattle.timing_defs.specs.declared.kinds.Kind.{Kind}
use Rattle.timing_defs.specs.declared.faults.Fault.{Fault}
use Rattle.timing_defs.specs.Netlist.{Node, name_of}
use Rattle.timing_rules.specs.Tests.{Test, tests_at}
use Rattle.timing_rules.specs.Range.{is_need_origin}
use Rattle.netlist_store.specs.Numbering.{Stored}
use Rattle.pin_graph.specs.Nodes.{node_at}
use Rattle.node_rows.specs.Evaluation.{IsPlaced}
use Rattle.node_tests.specs.declared.node_test.NodeTest.{NodeTest}

-- the node of a clock pin by its number, where there is one
abbrev pub IsClockNode : Stored → Option ℕ → Option Node → Type 0
IsClockNode s None None = ⊤
IsClockNode s (Some n) (Some node) = node_at s n ≡ Some node
IsClockNode s None (Some node) = ⊥
IsClockNode s (Some n) None = ⊥

-- a test as it is told by numbers: its clock pin's node, need, capture edge and capture arrivals
pub record IsTest (s : Stored) (told : NodeTest) (test : Test) : Type 0 where
  pub clock : IsClockNode s told.clock test.clock
  pub need : told.need.0 ≡ test.need
  pub capture : (told.capture_clock, told.capture_tran) ≡ test.capture
  pub early : told.early.0 ≡ test.early
  pub late : told.late.0 ≡ test.late

-- tests one by one
abbrev pub AreTests : Stored → List NodeTest → List Test → Type 0
AreTests s [] [] = ⊤
AreTests s (told ∷ more) (test ∷ tests) = IsTest s told test × AreTests s more tests
AreTests s [] (test ∷ tests) = ⊥
AreTests s (told ∷ more) [] = ⊥

-- a test that may be there
abbrev pub MayBeTest : Stored → Option NodeTest → Option Test → Type 0
MayBeTest s None None = ⊤
MayBeTest s (Some told) (Some test) = IsTest s told test
MayBeTest s None (Some test) = ⊥
MayBeTest s (Some told) None = ⊥

-- the tests of the node of a number, and whether a setup or hold time there leaves its limit; a number of no node has none
abbrev pub tests_numbered : Stored → Kind → ℕ → List Test
tests_numbered s kind node = option_map_or (tests_at s.design kind) (node_at s node) []

abbrev pub is_wide_numbered : Stored → Kind → ℕ → Bool
is_wide_numbered s kind node = option_map_or (is_need_origin s.design kind) (node_at s node) false

abbrev pub name_numbered : Stored → ℕ → List ℕ
name_numbered s node = option_map_or (λ n. name_of n.pin) (node_at s node) []

-- the tests of a node are refused at its pin where a setup or hold time leaves its limit; want of memory is free
abbrev pub IsTestFault : Stored → Kind → ℕ → Fault → Type 0
IsTestFault s kind node fault = IsPlaced (is_wide_numbered s kind node) (name_numbered s node) fault
