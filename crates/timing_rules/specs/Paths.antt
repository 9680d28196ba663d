-- Timing paths, their credit and slack, and the path that is shown (TAU 2015 contest: clock
-- pessimism removal; OpenTimer).

use Rattle.std.specs.Prelude.{ℕ, ◌≡◌, ℤ, pos, ◌+ℤ◌, ◌-ℤ◌, ◌≤ℤ◌, Bool, true, false, not, ◌&&◌, if◌then◌else◌, List, [], ◌∷◌, map, filter, length, Option, Some, None, option_map, option_and_then}
use Rattle.std.specs.List.{list_any, Contains}
use Rattle.std.specs.Option.{option_map_or, unwrap_or}
use Rattle.std.specs.Ordering.{nat_cmp, ordering_then, is_gt}
use Rattle.std.specs.declared.cmp.Ordering.{Ordering}
use Rattle.std.specs.declared.cmp.Ordering.TheVariants.{Less, Equal, Greater}
use Rattle.std.specs.Cmp.Lexicographic.{slice_cmp}
use Rattle.std.specs.Str.{bytes_eq}
use Rattle.timing_defs.specs.declared.kinds.Split.{Split}
use Rattle.timing_defs.specs.declared.kinds.Split.TheVariants.{Early, Late}
use Rattle.timing_defs.specs.declared.kinds.Tran.{Tran}
use Rattle.timing_defs.specs.declared.kinds.Tran.TheVariants.{Rise, Fall}
use Rattle.timing_defs.specs.declared.kinds.Kind.{Kind}
use Rattle.timing_defs.specs.declared.kinds.Kind.TheVariants.{Setup, Hold}
use Rattle.timing_defs.specs.declared.rows.Launch.{Launch}
use Rattle.timing_defs.specs.declared.rows.Capture.{Capture}
use Rattle.timing_defs.specs.declared.rows.Path.{Path}
use Rattle.timing_defs.specs.declared.design.Design.{Design}
use Rattle.timing_defs.specs.Netlist.{Node, name_of, same_node, same_tran, pin_named}
use Rattle.timing_defs.specs.Wires.{first_some}
use Rattle.timing_defs.specs.Kinds.{data_split}
use Rattle.timing_defs.specs.RowTimes.{plus_some}
use Rattle.timing_rules.specs.Clocking.{is_network}
use Rattle.timing_rules.specs.Rows.{arcs_in, launch_edges, start_at, delay, arrival}
use Rattle.timing_rules.specs.Rules.{is_tested, cycles, with_cycles}
use Rattle.timing_rules.specs.Tests.{Test, tests_at, separation_on, uncertainty_on, on_clocks}

-- a node by the name of its pin
abbrev pub Named : Type 0
Named = List ℕ × Tran

abbrev pub node_named : Design → Named → Option Node
node_named d n = option_map (λ pin. record { pin = pin; tran = n.1 }) (pin_named d n.0)

abbrev pub named : Node → Named
named node = (name_of node.pin, node.tran)

abbrev pub same_named : Named → Named → Bool
same_named a b = bytes_eq a.0 b.0 && same_tran a.1 b.1

abbrev pub tran_cmp : Tran → Tran → Ordering
tran_cmp Rise Rise = Equal
tran_cmp Rise Fall = Less
tran_cmp Fall Rise = Greater
tran_cmp Fall Fall = Equal

-- nodes are ordered by the bytes of the name, rise before fall; lists of nodes from the start
abbrev pub named_cmp : Named → Named → Ordering
named_cmp a b = ordering_then (slice_cmp nat_cmp a.0 b.0) (tran_cmp a.1 b.1)

abbrev pub nodes_cmp : List Named → List Named → Ordering
nodes_cmp a b = slice_cmp named_cmp a b

-- the delay of the arc between two nodes, where there is one
abbrev pub arc_delay : Design → Split → Node → Node → Option ℤ
arc_delay d split from to = (if list_any (same_node from) (arcs_in d to) then delay d split from to else None)

abbrev pub delay_between : Design → Split → Named → Named → Option ℤ
delay_between d split from to =
    option_and_then (λ a. option_and_then (arc_delay d split a) (node_named d to)) (node_named d from)

-- the sum of the delays of a walk, where each node is joined to the next
abbrev pub walk_delay : Design → Split → Named → List Named → Option ℤ
walk_delay d split from [] = Some (pos 0)
walk_delay d split from (to ∷ more) = plus_some (delay_between d split from to) (walk_delay d split to more)

abbrev pub last_of : Named → List Named → Named
last_of n [] = n
last_of n (m ∷ ms) = last_of m ms

-- the launch edge and the start time of a start node
abbrev pub start_of : Design → Split → Named → Option ((ℕ × Tran) × ℤ)
start_of d split n =
    option_and_then (λ node. first_some (λ edge. option_map (λ time. (edge, time)) (start_at d split node edge)) (launch_edges d))
    (node_named d n)

-- the launch pin: the last network pin of the path, or its first pin where it has none
abbrev pub is_network_named : Design → Named → Bool
is_network_named d n = option_map_or (λ node. is_network d node.pin) (node_named d n) false

abbrev pub launch_node : Design → Named → List Named → Named
launch_node d n [] = n
launch_node d n (m ∷ ms) = launch_node d (if is_network_named d m then m else n) ms

abbrev pub owner_named : Design → List ℕ → Option (List ℕ)
owner_named d name = option_and_then (λ pin. option_map (λ inst. inst.name) pin.owner) (pin_named d name)

abbrev pub launch_of : Design → Named → List Named → ℕ × Tran → Launch
launch_of d n ms edge =
    (let pin = (launch_node d n ms).0 in record { pin = pin; cell = owner_named d pin; clock = edge.0 })

abbrev pub capture_of : Design → Named → Test → Capture
capture_of d end test = record { pin = end.0; cell = owner_named d end.0; clock = test.capture.0 }

-- the last node of the common beginning of two lists
abbrev pub last_common : Option Named → List Named → List Named → Option Named
last_common last [] bs = last
last_common last (a ∷ more) [] = last
last_common last (a ∷ more) (b ∷ bs) = (if same_named a b then last_common (Some a) more bs else last)

-- late less early arrival at a node on the launch edge
abbrev pub spread_at : Design → ℕ × Tran → Named → ℤ
spread_at d edge n =
    option_map_or
    (λ node. option_map_or (λ late. option_map_or (λ early. late -ℤ early) (arrival d Early node edge) (pos 0)) (arrival d Late node edge) (pos 0))
    (node_named d n) (pos 0)

-- the credit of a path with a test: the pessimism of the part that it shares with the capture path
abbrev pub credit : Design → List Named → ℕ × Tran → Test → ℤ
credit d path edge test = option_map_or (spread_at d edge) (last_common None path (map named test.walk)) (pos 0)

abbrev pub moved : Design → Kind → Launch → Capture → ℕ × Tran → ℕ × Tran → ℤ
moved d kind launch capture from to =
    on_clocks d (λ l c. with_cycles kind (separation_on d kind from to)
    (cycles d.constraints Setup launch capture) (cycles d.constraints Hold launch capture) l c) from.0 to.0

-- the slack of a path of this length and credit, by the moved separation
abbrev pub slack_by : Kind → Test → ℤ → ℤ → ℤ → ℤ → ℤ
slack_by Setup test sep unc credit length = test.early +ℤ sep -ℤ test.need -ℤ unc +ℤ credit -ℤ length
slack_by Hold test sep unc credit length = length -ℤ test.late -ℤ sep -ℤ test.need -ℤ unc +ℤ credit

-- the slack of a path by a test: `n` is its first node, `ms` are the others; its launch edge and its length
abbrev pub slack_of : Design → Kind → Named → List Named → ℕ × Tran → ℤ → Test → ℤ
slack_of d kind n ms edge length test =
    slack_by kind test
    (moved d kind (launch_of d n ms edge) (capture_of d (last_of n ms) test) edge test.capture)
    (uncertainty_on d kind test.capture.0) (credit d (n ∷ ms) edge test) length

abbrev pub tests_path : Design → Kind → Named → List Named → ℕ × Tran → Test → Bool
tests_path d kind n ms edge test =
    is_tested d.constraints kind (launch_of d n ms edge) (capture_of d (last_of n ms) test)

-- each test of the last node that is not removed, with the slack of the path by it
abbrev pub slacks_from : Design → Kind → Named → List Named → ℕ × Tran → ℤ → List (Test × ℤ)
slacks_from d kind n ms edge length =
    map (λ test. (test, slack_of d kind n ms edge length test))
    (filter (tests_path d kind n ms edge) (option_map_or (tests_at d kind) (node_named d (last_of n ms)) []))

-- the slacks of a list of nodes, one for each test that is not removed; none where it is no path
abbrev pub path_slacks : Design → Kind → List Named → List (Test × ℤ)
path_slacks d kind [] = []
path_slacks d kind (n ∷ ms) =
    option_map_or (λ (edge, time).
    option_map_or (λ sum. slacks_from d kind n ms edge (time +ℤ sum)) (walk_delay d (data_split kind) n ms) [])
    (start_of d (data_split kind) n) []

-- whether a list of nodes ends at a pin
abbrev pub ends_at : List ℕ → List Named → Bool
ends_at pin [] = false
ends_at pin (n ∷ ms) = bytes_eq (last_of n ms).0 pin

-- a pin has this slack: none where no path to it is tested, else the least over all tested paths and their tests
abbrev pub IsSlack : Design → Kind → List ℕ → Option ℤ → Type 0
IsSlack d kind pin None = (path : List Named) → ends_at pin path ≡ true → path_slacks d kind path ≡ []
IsSlack d kind pin (Some s) =
    ((path : List Named) × (test : Test) × (ends_at pin path ≡ true) × Contains (path_slacks d kind path) (test, s))
    × ((path : List Named) (test : Test) (t : ℤ) → ends_at pin path ≡ true → Contains (path_slacks d kind path) (test, t) → s ≤ℤ t)

-- the times of a path: the start time plus the delays up to each node
abbrev pub times_along : Design → Split → ℤ → Named → List Named → List ℤ
times_along d split time n [] = time ∷ []
times_along d split time n (m ∷ ms) =
    time ∷ times_along d split (time +ℤ unwrap_or (delay_between d split n m) (pos 0)) m ms

abbrev pub path_times : Design → Split → List Named → List ℤ
path_times d split [] = []
path_times d split (n ∷ ms) = option_map_or (λ (edge, time). times_along d split time n ms) (start_of d split n) []

abbrev pub path_edge : Design → Split → List Named → Option (ℕ × Tran)
path_edge d split [] = None
path_edge d split (n ∷ ms) = option_map (λ (edge, time). edge) (start_of d split n)

abbrev pub path_named : Path → List Named
path_named p = map (λ node. (node.pin, node.tran)) p.nodes

abbrev pub clock_not_after : Option Node → Option Node → Bool
clock_not_after None b = true
clock_not_after (Some a) None = false
clock_not_after (Some a) (Some b) = not (is_gt (named_cmp (named a) (named b)))

-- of a path's tests that give its least slack the one of the lesser clock pin counts, rise before fall
abbrev pub Counts : Design → Kind → List Named → Test → ℤ → Type 0
Counts d kind path test s =
    Contains (path_slacks d kind path) (test, s)
    × ((other : Test) (t : ℤ) → Contains (path_slacks d kind path) (other, t) →
    (s ≤ℤ t) × (t ≡ s → clock_not_after test.clock other.clock ≡ true))

-- what a path holds beside its nodes, by the test that counts
abbrev pub Holds : Design → Kind → Path → Test → Type 0
Holds d kind p test =
    Counts d kind (path_named p) test p.slack.0
    × (map (λ node. node.time.0) p.nodes ≡ path_times d (data_split kind) (path_named p))
    × (path_edge d (data_split kind) (path_named p) ≡ Some (p.launch_clock, p.launch_tran))
    × ((p.capture_clock, p.capture_tran) ≡ test.capture)
    × (p.credit.0 ≡ credit d (path_named p) (p.launch_clock, p.launch_tran) test)

-- the shown path of an endpoint is of least slack, and among those the least by its nodes
abbrev pub IsShown : Design → Kind → List ℕ → Option Path → Type 0
IsShown d kind pin None = IsSlack d kind pin None
IsShown d kind pin (Some p) =
    (ends_at pin (path_named p) ≡ true) × ((test : Test) × Holds d kind p test)
    × IsSlack d kind pin (Some p.slack.0)
    × ((path : List Named) (test : Test) → ends_at pin path ≡ true → Contains (path_slacks d kind path) (test, p.slack.0) →
    is_gt (nodes_cmp (path_named p) path) ≡ false)
