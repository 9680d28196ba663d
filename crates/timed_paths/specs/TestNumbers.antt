-- The tests of a node and the walks to their clock pins, by the numbers of nodes.

use Rattle.std.specs.Prelude.{ℕ, ◌≡◌, ⊤, ℤ, pos, ◌-ℤ◌, nat_eq, if◌then◌else◌, List, [], ◌∷◌, ◌++◌, Option, Some, None, option_and_then}
use Rattle.std.specs.Option.{option_map_or, unwrap_or}
use Rattle.timing_defs.specs.declared.kinds.Split.{Split}
use Rattle.timing_defs.specs.declared.kinds.Split.TheVariants.{Early, Late}
use Rattle.timing_defs.specs.declared.kinds.Tran.{Tran}
use Rattle.timing_defs.specs.declared.kinds.Tran.TheVariants.{Rise}
use Rattle.timing_defs.specs.declared.rows.PathNode.{PathNode}
use Rattle.timing_defs.specs.declared.design.Design.{Design}
use Rattle.timing_defs.specs.Netlist.{Node, name_of}
use Rattle.timing_defs.specs.RowTimes.{time_on, times_in}
use Rattle.timing_rules.specs.Rows.{arrival}
use Rattle.timing_rules.specs.Tests.{Test, network_walk}
use Rattle.netlist_store.specs.Numbering.{Stored}
use Rattle.pin_graph.specs.Nodes.{node_at}
use Rattle.pin_graph.specs.Graphs.{Graphed}
use Rattle.pin_graph.specs.RowTables.{row_numbered}
use Rattle.node_tests.specs.declared.node_test.NodeTest.{NodeTest}
use Rattle.node_tests.specs.NodeTests.{IsTest}
use Rattle.path_search.specs.Ranks.{climb}
use Rattle.path_search.specs.Slacks.{IsTestFine}

-- the walk over the clock network to the node of a number
abbrev pub walk_of : Stored → Option ℕ → List Node
walk_of s clock = option_map_or (λ n. unwrap_or (network_walk s.design n) []) (option_and_then (node_at s) clock) []

-- a test as the definition has it
abbrev pub test_of : Stored → NodeTest → Test
test_of s told = record {
  clock = option_and_then (node_at s) told.clock;
  walk = walk_of s told.clock;
  need = told.need.0;
  capture = (told.capture_clock, told.capture_tran);
  early = told.early.0;
  late = told.late.0;
}

-- a test that is told so, whose times are within their limits
pub record IsKnownTest (s : Stored) (told : NodeTest) : Type 0 where
  pub its : IsTest s told (test_of s told)
  pub fine : IsTestFine s.design (test_of s told)

-- a walk leads to the node of a number
pub record IsWalked (s : Stored) (k : ℕ) : Type 0 where
  pub node : Node
  pub number : node_at s k ≡ Some node
  pub walk : List Node
  pub told : network_walk s.design node ≡ Some walk

abbrev pub MayBeWalked : Stored → Option ℕ → Type 0
MayBeWalked s None = ⊤
MayBeWalked s (Some k) = IsWalked s k

-- the numbers of its nodes
abbrev pub walk_numbers : Graphed → Option ℕ → List ℕ
walk_numbers g None = []
walk_numbers g (Some k) = climb g k ++ k ∷ []

-- a node of a walk with its arrival on an edge
abbrev pub node_on : Design → Split → ℕ × Tran → Node → PathNode
node_on d split edge node =
    record {
      pin = name_of node.pin;
      tran = node.tran;
      time = record { 0 = unwrap_or (arrival d split node edge) (pos 0) };
    }

abbrev pub no_node : PathNode
no_node = record { pin = []; tran = Rise; time = record { 0 = pos 0 } }

abbrev pub node_numbered : Stored → Split → ℕ × Tran → ℕ → PathNode
node_numbered s split edge k = option_map_or (node_on s.design split edge) (node_at s k) no_node

-- the last number of the common beginning of the nodes of a path and of a walk
abbrev pub same_number : Option ℕ → ℕ → Option ℕ → Option ℕ → Option ℕ
same_number None b more last = last
same_number (Some a) b more last = (if nat_eq a b then more else last)

abbrev pub last_same : Option ℕ → List (Option ℕ) → List ℕ → Option ℕ
last_same last [] bs = last
last_same last (a ∷ more) [] = last
last_same last (a ∷ more) (b ∷ bs) = same_number a b (last_same (Some b) more bs) last

-- late less early arrival at the node of a number on an edge
abbrev pub spread_of : Option ℤ → Option ℤ → ℤ
spread_of None early = pos 0
spread_of (Some late) None = pos 0
spread_of (Some late) (Some early) = late -ℤ early

abbrev pub time_numbered : Stored → Split → ℕ × Tran → ℕ → Option ℤ
time_numbered s split edge k = time_on (times_in split (row_numbered s k)) edge

abbrev pub spread_numbered : Stored → ℕ × Tran → ℕ → ℤ
spread_numbered s edge k = spread_of (time_numbered s Late edge k) (time_numbered s Early edge k)
