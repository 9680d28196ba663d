-- The launch edge of a network node is that on which the walk to it is told to start.

use Rattle.std.proofs.Common.{◌≡◌, ℕ, true, List, Option, None, Some, refl, subst, ◌∙◌}
use Rattle.std.specs.Prelude.{option_map, option_and_then}
use Rattle.timing_defs.specs.declared.kinds.Split.{Split}
use Rattle.timing_defs.specs.declared.kinds.Tran.{Tran}
use Rattle.timing_defs.specs.Netlist.{Node}
use Rattle.timing_rules.specs.Clocking.{is_network}
use Rattle.timing_rules.specs.Tests.{network_walk, first_edge}
use Rattle.timing_rules.specs.Paths.{Named}
use Rattle.netlist_store.specs.Numbering.{Stored}
use Rattle.pin_graph.specs.Nodes.{node_at}
use Rattle.node_tests.specs.declared.climbs.WalkStart.{WalkStart}
use Rattle.node_tests.specs.Walks.{StartsOn}
use Rattle.path_search.specs.Launches.{edge_of_launch}
use Rattle.path_search.proofs.Launching.{edge_walked}

abbrev pub start_edge : WalkStart → ℕ × Tran
start_edge start = (start.clock, start.tran)

edge_by : (s : Stored) (walk : Option (List Node)) (start : Option WalkStart) → StartsOn s walk start → option_and_then (first_edge s.design) walk ≡ option_map start_edge start
edge_by s None None h = refl
edge_by s None (Some start) h = absurd h
edge_by s (Some walk) None h = absurd h
edge_by s (Some walk) (Some start) h = h.edge

pub edge_from_start : (s : Stored) (split : Split) (launch : Named) (node : Node) (number : ℕ) (start : Option WalkStart) → node_at s number ≡ Some node → is_network s.design node.pin ≡ true
    → StartsOn s (option_and_then (network_walk s.design) (node_at s number)) start → edge_of_launch s.design split launch node ≡ option_map start_edge start
edge_from_start s split launch node number start at net h =
    edge_walked s.design split launch node net
    ∙ edge_by s (network_walk s.design node) start
    (subst (λ (o : Option Node). StartsOn s (option_and_then (network_walk s.design) o) start) at h)
