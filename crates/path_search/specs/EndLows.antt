-- What no path to an end node that is launched on one of some edges has a lesser slack than, with its length put back.

use Rattle.std.specs.Prelude.{ℕ, ◌≡◌, ℤ, List, Option, Some, None, Contains}
use Rattle.timing_defs.specs.declared.edge_times.EdgeTime.{EdgeTime}
use Rattle.timing_defs.specs.declared.kinds.Kind.{Kind}
use Rattle.timing_defs.specs.declared.kinds.Split.TheVariants.{Early}
use Rattle.timing_defs.specs.declared.kinds.Tran.{Tran}
use Rattle.timing_defs.specs.declared.design.Design.{Design}
use Rattle.timing_defs.specs.Netlist.{Node}
use Rattle.timing_rules.specs.Rows.{outermost}
use Rattle.timing_rules.specs.Tests.{Test, tests_at}
use Rattle.netlist_store.specs.Numbering.{Stored}
use Rattle.pin_graph.specs.Nodes.{node_at}
use Rattle.pessimism_credit.specs.declared.rows.TreeRow.{TreeRow}
use Rattle.bounded_changes.specs.Carried.{IsLowest}
use Rattle.path_search.specs.declared.ends.EndTest.{EndTest}
use Rattle.path_search.specs.Lows.{low_over}

abbrev pub edge_at : EdgeTime → ℕ × Tran
edge_at t = (t.clock, t.tran)

-- the least of the lowest offers on the edges of some times
abbrev pub low_on : Design → Kind → List TreeRow → List EndTest → List EdgeTime → Option ℤ
low_on d kind rows tests times = outermost Early (λ t. low_over d kind rows tests (edge_at t)) None times

-- a lowest slack of a test that is there
abbrev pub IsLowIn : Design → Kind → ℕ × Tran → Test → Option ℤ → Type 0
IsLowIn d kind edge test None = ⊥
IsLowIn d kind edge test (Some low) = IsLowest d kind edge test low

-- lowest on the edge of each of some times, by each test of an end node
abbrev pub IsEndLow : Stored → Kind → ℕ → List EdgeTime → Option ℤ → Type 0
IsEndLow s kind end times low =
    (node : Node) → node_at s end ≡ Some node → (t : EdgeTime) → Contains times t → (test : Test) → Contains (tests_at s.design kind node) test
    → IsLowIn s.design kind (edge_at t) test low
