-- The graph in front of an end node, as a search with a bound asks for it node by node.

use Rattle.std.specs.Prelude.{ℕ, ◌≡◌, ◌<◌, true, ℤ, nat_lt, if◌then◌else◌, List, [], Option, Some, None, option_map, option_and_then}
use Rattle.timing_defs.specs.declared.edge_times.EdgeTime.{EdgeTime}
use Rattle.timing_defs.specs.declared.kinds.Kind.{Kind}
use Rattle.timing_defs.specs.declared.rows.NodeRow.{NodeRow}
use Rattle.timing_defs.specs.declared.kinds.Tran.{Tran}
use Rattle.timing_defs.specs.Netlist.{Node}
use Rattle.timing_rules.specs.Paths.{named}
use Rattle.timing_rules.specs.Rows.{arrival}
use Rattle.timing_defs.specs.RowTimes.{times_in}
use Rattle.timing_defs.specs.Kinds.{data_split}
use Rattle.netlist_store.specs.Numbering.{Stored, is_number}
use Rattle.pin_graph.specs.Nodes.{node_at, node_bound, pin_under}
use Rattle.pin_graph.specs.Graphs.{Graphed, level_at, place_at}
use Rattle.pin_graph.specs.RowTables.{row_numbered}
use Rattle.pessimism_credit.specs.declared.rows.TreeRow.{TreeRow}
use Rattle.arc_delays.specs.declared.tables.ArcDelay.{ArcDelay}
use Rattle.worst_walks.specs.declared.cones.WalkArc.{WalkArc}
use Rattle.path_cones.specs.Following.{arcs_followed}
use Rattle.bounded_slack.specs.Nets.{Net}
use Rattle.bounded_slack.specs.Rows.{least_room, signed_on}
use Rattle.path_search.specs.declared.ends.EndTest.{EndTest}
use Rattle.path_search.specs.declared.launches.LaunchNode.{LaunchNode}
use Rattle.path_search.specs.Launches.{edge_of_launch, launched_at}
use Rattle.path_search.specs.Lows.{lows_told}
use Rattle.path_search.specs.Slacks.{AreEndTestsOf, least_slack}
use Rattle.path_search.specs.Sources.{AreSources}

-- the launch node of a number, where it launches paths of a kind
abbrev pub launch_value : Graphed → ℕ → Node → ℕ × Tran → ℤ → LaunchNode
launch_value g n node edge time = record {
  launch = launched_at g.stored.design (named node) edge;
  tran = edge.1;
  time = record { 0 = time };
  place = place_at g n;
}

abbrev pub launch_told : Graphed → Kind → ℕ → Option LaunchNode
launch_told g kind n =
    option_and_then (λ node.
    option_and_then (λ edge. option_map (launch_value g n node edge) (arrival g.stored.design (data_split kind) node edge))
    (edge_of_launch g.stored.design (data_split kind) (named node) node))
    (node_at g.stored n)

-- what a number offers by some tests
abbrev pub offer_told : Graphed → Kind → List TreeRow → List EndTest → ℕ → Option ℤ
offer_told g kind rows tests n = option_and_then (λ l. least_slack g.stored.design kind rows l tests) (launch_told g kind n)

-- the arrivals of a number, signed
abbrev pub signed_arrival : Graphed → Kind → ℕ → ℕ × Tran → Option ℤ
signed_arrival g kind n edge = signed_on kind (times_in (data_split kind) (row_numbered g.stored n)) edge

-- the arcs that are followed into a number; none into one past the nodes
abbrev pub arcs_there : Graphed → Kind → ℕ → List WalkArc
arcs_there g kind n = (if nat_lt n (node_bound g.stored) then arcs_followed g kind n else [])

abbrev pub net_told : Graphed → Kind → List TreeRow → List EndTest → ℕ → Net
net_told g kind rows tests end = record {
  count = node_bound g.stored;
  end = end;
  level = level_at g;
  place = level_at g;
  arcs = arcs_there g kind;
  offer = offer_told g kind rows tests;
  bound = λ n. least_room (signed_arrival g kind n) None (lows_told g.stored.design kind rows tests);
}

-- what is told of the graph in front of an end node
pub record IsFanOf (s : Stored) (g : Graphed) (rows : List NodeRow) (delays : List (List ArcDelay)) (tree : List TreeRow) (kind : Kind) (end : ℕ) (tests : List EndTest) (lows : List EdgeTime) : Type 0 where
  pub sources : AreSources s g rows delays tree
  pub below : end < node_bound s
  pub there : is_number s.pins (pin_under end) ≡ true
  pub its_tests : AreEndTestsOf g kind end tests
  pub its_lows : lows ≡ lows_told s.design kind tree tests

-- the value of a fan: the graph with a kind of tests, the clock tree, the tests of the end node and its number
abbrev pub FanValue : Type 0
FanValue = Graphed × Kind × List TreeRow × List EndTest × ℕ

abbrev pub fan_net : FanValue → Net
fan_net v = net_told v.0 v.1 v.2 v.3 v.4

-- a fan that is told so
pub record IsFanNet (s : Stored) (g : Graphed) (rows : List NodeRow) (delays : List (List ArcDelay)) (tree : List TreeRow) (kind : Kind) (end : ℕ) (fan : FanValue) : Type 0 where
  pub tests : List EndTest
  pub lows : List EdgeTime
  pub told : IsFanOf s g rows delays tree kind end tests lows
  pub is : fan ≡ (g, kind, tree, tests, end)
