-- Timing paths by their launch node: the last clock network node, or the first node where there is none.

use Rattle.std.specs.Prelude.{ℕ, ◌≡◌, ℤ, pos, neg_ℤ, ◌+ℤ◌, ◌≤ℤ◌, true, false, Bool, List, [], ◌∷◌, ◌++◌, map, filter, if◌then◌else◌, Option, Some, None, ◌⊎◌, Contains, option_map, option_and_then}
use Rattle.std.specs.List.{list_any}
use Rattle.std.specs.Option.{option_map_or, unwrap_or}
use Rattle.timing_defs.specs.declared.kinds.Split.{Split}
use Rattle.timing_defs.specs.declared.kinds.Tran.{Tran}
use Rattle.timing_defs.specs.declared.kinds.Kind.{Kind}
use Rattle.timing_defs.specs.declared.kinds.Kind.TheVariants.{Setup, Hold}
use Rattle.timing_defs.specs.declared.rows.Launch.{Launch}
use Rattle.timing_defs.specs.declared.design.Design.{Design}
use Rattle.timing_defs.specs.Netlist.{Node}
use Rattle.timing_rules.specs.Clocking.{is_network}
use Rattle.timing_rules.specs.Rows.{arrival}
use Rattle.timing_rules.specs.Tests.{Test, network_walk, first_edge, tests_at, uncertainty_on}
use Rattle.timing_defs.specs.Kinds.{data_split}
use Rattle.timing_rules.specs.Paths.{Named, node_named, named, walk_delay, start_of, is_network_named, launch_node, owner_named, capture_of, last_of, credit, moved, slack_by}
use Rattle.timing_rules.specs.Rules.{is_tested}
use Rattle.std.specs.Str.{bytes_eq}

-- a path with its launch edge, launch node and length: start time and delays
pub record IsWhole (d : Design) (split : Split) (edge : ℕ × Tran) (path : List Named) (launch : Named) (length : ℤ) : Type 0 where
  pub first : Named
  pub more : List Named
  pub nodes : path ≡ first ∷ more
  pub time : ℤ
  pub starts : start_of d split first ≡ Some (edge, time)
  pub sum : ℤ
  pub walks : walk_delay d split first more ≡ Some sum
  pub total : time +ℤ sum ≡ length
  pub last : launch_node d first more ≡ launch

pub record IsPath (d : Design) (split : Split) (path : List Named) : Type 0 where
  pub edge : ℕ × Tran
  pub launch : Named
  pub length : ℤ
  pub whole : IsWhole d split edge path launch length

-- before the launch node stands the walk to it over the clock network, which starts on the edge
pub record IsByWalk (d : Design) (edge : ℕ × Tran) (node : Node) (pre : List Named) (launch : Named) : Type 0 where
  pub network : is_network d node.pin ≡ true
  pub walk : List Node
  pub told : network_walk d node ≡ Some walk
  pub names : map named walk ≡ pre ++ launch ∷ []
  pub edge_is : first_edge d walk ≡ Some edge

-- nothing stands before a launch node outside the clock network, which starts the path
pub record IsAlone (d : Design) (split : Split) (edge : ℕ × Tran) (time : ℤ) (node : Node) (pre : List Named) (launch : Named) : Type 0 where
  pub outside : is_network d node.pin ≡ false
  pub none : pre ≡ []
  pub start : start_of d split launch ≡ Some (edge, time)

-- a path in parts: up to the launch node, which arrives on the launch edge, and on outside the clock network
pub record IsParted (d : Design) (split : Split) (edge : ℕ × Tran) (path : List Named) (launch : Named) (length : ℤ) : Type 0 where
  pub pre : List Named
  pub post : List Named
  pub nodes : path ≡ pre ++ launch ∷ post
  pub outside : list_any (is_network_named d) post ≡ false
  pub node : Node
  pub its : node_named d launch ≡ Some node
  pub time : ℤ
  pub arrives : arrival d split node edge ≡ Some time
  pub begins : IsByWalk d edge node pre launch ⊎ IsAlone d split edge time node pre launch
  pub rest : ℤ
  pub walks : walk_delay d split launch post ≡ Some rest
  pub total : time +ℤ rest ≡ length

-- the nodes up to a launch node of the clock network; none for one outside it
abbrev pub walk_names : Design → Named → List Named
walk_names d launch = option_map_or (λ node. option_map_or (map named) (network_walk d node) []) (node_named d launch) []

-- what launches paths of a launch node on an edge
abbrev pub launched_at : Design → Named → ℕ × Tran → Launch
launched_at d launch edge = record { pin = launch.0; cell = owner_named d launch.0; clock = edge.0 }

-- the slacks of paths by launch node, launch edge, length and end alone
abbrev pub launch_slack : Design → Kind → Named → ℕ × Tran → ℤ → Named → Test → ℤ
launch_slack d kind launch edge length end test =
    slack_by kind test
    (moved d kind (launched_at d launch edge) (capture_of d end test) edge test.capture)
    (uncertainty_on d kind test.capture.0) (credit d (walk_names d launch) edge test) length

abbrev pub is_launch_tested : Design → Kind → Named → ℕ × Tran → Named → Test → Bool
is_launch_tested d kind launch edge end test = is_tested d.constraints kind (launched_at d launch edge) (capture_of d end test)

abbrev pub launch_slacks : Design → Kind → Named → ℕ × Tran → ℤ → Named → List (Test × ℤ)
launch_slacks d kind launch edge length end =
    map (λ test. (test, launch_slack d kind launch edge length end test))
    (filter (is_launch_tested d kind launch edge end) (option_map_or (tests_at d kind) (node_named d end) []))

-- the nodes of a path up to its launch node, and the launch edge: both are told by the launch node
abbrev pub begin_names : Design → Named → List Named
begin_names d launch =
    option_map_or (λ node. option_map_or (map named) (network_walk d node) (launch ∷ [])) (node_named d launch) (launch ∷ [])

abbrev pub edge_of_start : (ℕ × Tran) × ℤ → ℕ × Tran
edge_of_start start = start.0

abbrev pub edge_of_launch : Design → Split → Named → Node → Option (ℕ × Tran)
edge_of_launch d split launch node =
    (if is_network d node.pin then option_and_then (first_edge d) (network_walk d node) else option_map edge_of_start (start_of d split launch))

-- a launch node with its launch edge, and its arrival there
pub record IsLaunched (d : Design) (split : Split) (edge : ℕ × Tran) (launch : Named) (time : ℤ) : Type 0 where
  pub node : Node
  pub its : node_named d launch ≡ Some node
  pub edge_is : edge_of_launch d split launch node ≡ Some edge
  pub arrives : arrival d split node edge ≡ Some time

-- nodes outside the clock network after a launch node, and the sum of their delays
pub record IsTail (d : Design) (split : Split) (launch : Named) (post : List Named) (rest : ℤ) : Type 0 where
  pub outside : list_any (is_network_named d) post ≡ false
  pub walks : walk_delay d split launch post ≡ Some rest

-- a path by its launch node, with one of its slacks
pub record IsFound (d : Design) (kind : Kind) (path : List Named) (slack : Test × ℤ) : Type 0 where
  pub edge : ℕ × Tran
  pub launch : Named
  pub time : ℤ
  pub launched : IsLaunched d (data_split kind) edge launch time
  pub post : List Named
  pub rest : ℤ
  pub tail : IsTail d (data_split kind) launch post rest
  pub nodes : path ≡ begin_names d launch ++ post
  pub slack_in : Contains (launch_slacks d kind launch edge (time +ℤ rest) (last_of launch post)) slack

-- a launch node and nodes after it that end at a pin
pub record IsCourse (d : Design) (kind : Kind) (pin : List ℕ) (edge : ℕ × Tran) (launch : Named) (time : ℤ) (post : List Named) (rest : ℤ) : Type 0 where
  pub launched : IsLaunched d (data_split kind) edge launch time
  pub tail : IsTail d (data_split kind) launch post rest
  pub ends : bytes_eq (last_of launch post).0 pin ≡ true

pub record IsReached (d : Design) (kind : Kind) (pin : List ℕ) (slack : ℤ) : Type 0 where
  pub edge : ℕ × Tran
  pub launch : Named
  pub time : ℤ
  pub post : List Named
  pub rest : ℤ
  pub course : IsCourse d kind pin edge launch time post rest
  pub test : Test
  pub slack_in : Contains (launch_slacks d kind launch edge (time +ℤ rest) (last_of launch post)) (test, slack)

-- a pin's slack over launch nodes and nodes after them
abbrev pub IsLaunchSlack : Design → Kind → List ℕ → Option ℤ → Type 0
IsLaunchSlack d kind pin None =
    (edge : ℕ × Tran) (launch : Named) (time : ℤ) (post : List Named) (rest : ℤ) → IsCourse d kind pin edge launch time post rest
    → launch_slacks d kind launch edge (time +ℤ rest) (last_of launch post) ≡ []
IsLaunchSlack d kind pin (Some s) =
    IsReached d kind pin s
    × ((edge : ℕ × Tran) (launch : Named) (time : ℤ) (post : List Named) (rest : ℤ) → IsCourse d kind pin edge launch time post rest
    → (test : Test) (t : ℤ) → Contains (launch_slacks d kind launch edge (time +ℤ rest) (last_of launch post)) (test, t) → s ≤ℤ t)

-- the arrivals on the launch edge of the nodes before a launch node
abbrev pub time_at : Design → Split → ℕ × Tran → Node → ℤ
time_at d split edge node = unwrap_or (arrival d split node edge) (pos 0)

abbrev pub before_end : Node → List Node → List Node
before_end n [] = []
before_end n (m ∷ ms) = n ∷ before_end m ms

abbrev pub before_last : List Node → List Node
before_last [] = []
before_last (n ∷ ms) = before_end n ms

abbrev pub begin_times : Design → Split → ℕ × Tran → Named → List ℤ
begin_times d split edge launch =
    option_map_or (λ node. option_map_or (λ walk. map (time_at d split edge) (before_last walk)) (network_walk d node) []) (node_named d launch) []

-- delays as a search for the least slack takes them: those of hold tests negated
abbrev pub signed : Kind → ℤ → ℤ
signed Setup delay = delay
signed Hold delay = neg_ℤ delay
