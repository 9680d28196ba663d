-- A launch node, the tests of an end node and the slacks between them, as they are told by numbers.

use Rattle.std.specs.Prelude.{ℕ, ◌≡◌, ◌<◌, ◌≤◌, ◌^◌, nat_le, unsigned_abs, ℤ, pos, Bool, true, if◌then◌else◌, List, [], ◌∷◌, length, Option, Some, None, option_and_then}
use Rattle.std.specs.Option.{option_map_or}
use Rattle.sta_units.specs.Numbers.{Within, is_within}
use Rattle.timing_defs.specs.declared.kinds.Split.{Split}
use Rattle.timing_defs.specs.declared.kinds.Split.TheVariants.{Early}
use Rattle.timing_defs.specs.declared.kinds.Tran.{Tran}
use Rattle.timing_defs.specs.declared.kinds.Kind.{Kind}
use Rattle.timing_defs.specs.declared.kinds.Kind.TheVariants.{Setup, Hold}
use Rattle.timing_defs.specs.declared.design.Design.{Design}
use Rattle.timing_defs.specs.Netlist.{Node}
use Rattle.timing_rules.specs.Rows.{outermost}
use Rattle.timing_defs.specs.RowTimes.{edge_of}
use Rattle.timing_rules.specs.Tests.{Test, network_walk, uncertainty_on}
use Rattle.timing_defs.specs.Kinds.{data_split}
use Rattle.timing_rules.specs.Paths.{Named, named, owner_named, capture_of, moved, slack_by}
use Rattle.timing_rules.specs.Rules.{is_tested}
use Rattle.netlist_store.specs.Numbering.{Stored, name_at}
use Rattle.timing_defs.specs.declared.edge_times.EdgeTime.{EdgeTime}
use Rattle.pin_graph.specs.declared.arcs.GraphArc.{GraphArc}
use Rattle.pin_graph.specs.Nodes.{node_at}
use Rattle.pin_graph.specs.Graphs.{Graphed, place_at}
use Rattle.node_tests.specs.declared.node_test.NodeTest.{NodeTest}
use Rattle.node_tests.specs.NodeTests.{IsTest, tests_numbered}
use Rattle.path_rules.specs.declared.overrides.Rule.{Rule}
use Rattle.pessimism_credit.specs.declared.rows.TreeRow.{TreeRow}
use Rattle.pessimism_credit.specs.Credit.{credit_of}
use Rattle.worst_walks.specs.declared.cones.Launch.{Launch as Offered}
use Rattle.path_search.specs.declared.ends.EndTest.{EndTest}
use Rattle.path_search.specs.declared.launches.LaunchNode.{LaunchNode}
use Rattle.path_search.specs.declared.launches.LaunchTime.{LaunchTime}
use Rattle.path_search.specs.declared.names.PinNames.{PinNames}
use Rattle.path_search.specs.Launches.{launched_at, launch_slacks, IsLaunched}
use Rattle.path_search.specs.Offers.{IsOffer}

-- a pin's name with that of its instance
pub record ArePinNames (s : Stored) (pin : ℕ) (names : PinNames) : Type 0 where
  pub name : name_at s.pins pin ≡ Some names.pin
  pub cell : names.cell ≡ owner_named s.design names.pin

-- the walk over the clock network to a test's clock pin; none at an output port
abbrev pub IsCaptureWalk : Design → Option Node → List Node → Type 0
IsCaptureWalk d None walk = walk ≡ []
IsCaptureWalk d (Some clock) walk = network_walk d clock ≡ Some walk

-- a test whose times are within their limits
pub record IsTestFine (d : Design) (test : Test) : Type 0 where
  pub clock : test.capture.0 < length d.constraints.clocks
  pub need : is_within test.need ≡ true
  pub early : is_within test.early ≡ true
  pub late : is_within test.late ≡ true
  pub walk : IsCaptureWalk d test.clock test.walk

-- a test of an end node, with what captures there and the place of its clock pin's node
pub record IsEndTest (g : Graphed) (end : Named) (told : EndTest) (test : Test) : Type 0 where
  pub its : IsTest g.stored told.test test
  pub capture : told.capture ≡ capture_of g.stored.design end test
  pub place : told.place ≡ option_and_then (place_at g) told.test.clock
  pub fine : IsTestFine g.stored.design test

-- tests one by one
abbrev pub AreEndTests : Graphed → Named → List EndTest → List Test → Type 0
AreEndTests g end [] [] = Unit {0}
AreEndTests g end (told ∷ more) (test ∷ tests) = IsEndTest g end told test × AreEndTests g end more tests
AreEndTests g end [] (test ∷ tests) = ⊥
AreEndTests g end (told ∷ more) [] = ⊥

abbrev pub AreEndTestsOf : Graphed → Kind → ℕ → List EndTest → Type 0
AreEndTestsOf g kind end tests =
    (node : Node) → node_at g.stored end ≡ Some node → AreEndTests g (named node) tests (tests_numbered g.stored kind end)

-- a test as it is found, with what captures at its pin
pub record IsToldTest (s : Stored) (g : Graphed) (pin : ℕ) (found : NodeTest) (told : EndTest) : Type 0 where
  pub test : told.test ≡ found
  pub name : name_at s.pins pin ≡ Some told.capture.pin
  pub cell : told.capture.cell ≡ owner_named s.design told.capture.pin
  pub clock : told.capture.clock ≡ found.capture_clock
  pub place : told.place ≡ option_and_then (place_at g) found.clock

abbrev pub AreToldTests : Stored → Graphed → ℕ → List NodeTest → List EndTest → Type 0
AreToldTests s g pin [] [] = Unit {0}
AreToldTests s g pin (found ∷ more) (told ∷ tests) = IsToldTest s g pin found told × AreToldTests s g pin more tests
AreToldTests s g pin [] (told ∷ tests) = ⊥
AreToldTests s g pin (found ∷ more) [] = ⊥

-- the launch edge of a start node by its arcs in and its arrivals: on the first of these, where nothing leads to it
abbrev pub first_time : List EdgeTime → Option (ℕ × Tran)
first_time [] = None
first_time (time ∷ times) = Some (time.clock, time.tran)

abbrev pub start_told : List GraphArc → List EdgeTime → Option (ℕ × Tran)
start_told [] times = first_time times
start_told (arc ∷ arcs) times = None

-- the launch edge and the arrival of a launch node
abbrev pub IsLaunchTime : Design → Split → Node → Option LaunchTime → Type 0
IsLaunchTime d split node None = (edge : ℕ × Tran) (time : ℤ) → IsLaunched d split edge (named node) time → ⊥
IsLaunchTime d split node (Some t) = IsLaunched d split (edge_of t.edge) (named node) t.time.0

-- a launch node with its launch edge and arrival
abbrev pub edge_of_node : LaunchNode → ℕ × Tran
edge_of_node l = (l.launch.clock, l.tran)

pub record IsLaunchNode (g : Graphed) (split : Split) (number : ℕ) (told : LaunchNode) : Type 0 where
  pub node : Node
  pub its : node_at g.stored number ≡ Some node
  pub launched : IsLaunched g.stored.design split (edge_of_node told) (named node) told.time.0
  pub launch : told.launch ≡ launched_at g.stored.design (named node) (edge_of_node told)
  pub place : told.place ≡ place_at g number
  pub clock : told.launch.clock < length g.stored.design.constraints.clocks
  pub time : Within told.time.0

-- the launch node of a number, where it is one
abbrev pub MayLaunch : Graphed → Split → ℕ → Option LaunchNode → Type 0
MayLaunch g split number (Some told) = IsLaunchNode g split number told
MayLaunch g split number None =
    (node : Node) → node_at g.stored number ≡ Some node → (edge : ℕ × Tran) (time : ℤ) → IsLaunched g.stored.design split edge (named node) time → ⊥

-- what slacks are computed from is there, and within its limits
pub record IsReadyLaunch (d : Design) (l : LaunchNode) : Type 0 where
  pub clock : l.launch.clock < length d.constraints.clocks
  pub time : Within l.time.0

pub record IsReadyTest (d : Design) (t : EndTest) : Type 0 where
  pub clock : t.test.capture_clock < length d.constraints.clocks
  pub same : t.capture.clock ≡ t.test.capture_clock
  pub need : Within t.test.need.0
  pub early : Within t.test.early.0
  pub late : Within t.test.late.0

abbrev pub tested_by_rule : Rule → Kind → Bool
tested_by_rule rule Setup = rule.setup_tested
tested_by_rule rule Hold = rule.hold_tested

-- the slack of a launch node's paths by a test, less the delays after the launch node, by what is told of both
abbrev pub test_told : NodeTest → Test
test_told t = record {
  clock = None;
  walk = [];
  need = t.need.0;
  capture = (t.capture_clock, t.capture_tran);
  early = t.early.0;
  late = t.late.0;
}

abbrev pub credit_told : List TreeRow → Option ℕ → Option ℕ → ℤ
credit_told rows None b = pos 0
credit_told rows (Some a) None = pos 0
credit_told rows (Some a) (Some b) = credit_of rows a b

abbrev pub slack_told : Design → Kind → List TreeRow → LaunchNode → EndTest → ℤ
slack_told d kind rows l t =
    slack_by kind (test_told t.test) (moved d kind l.launch t.capture (edge_of_node l) (t.test.capture_clock, t.test.capture_tran))
    (uncertainty_on d kind t.test.capture_clock) (credit_told rows l.place t.place) l.time.0

-- none where a false path removes the test
abbrev pub slack_where : Design → Kind → List TreeRow → LaunchNode → EndTest → Option ℤ
slack_where d kind rows l t = (if is_tested d.constraints kind l.launch t.capture then Some (slack_told d kind rows l t) else None)

abbrev pub least_slack : Design → Kind → List TreeRow → LaunchNode → List EndTest → Option ℤ
least_slack d kind rows l tests = outermost Early (slack_where d kind rows l) None tests

-- a slack that offers can tell
abbrev pub is_low : Option ℤ → Bool
is_low slack = option_map_or (λ x. nat_le (unsigned_abs x) (10 ^ 18)) slack true

-- what the node of a number offers for an end node; none where it is no launch, or no test is left
abbrev pub IsNodeOffer : Stored → Kind → ℕ → Named → Option ℤ → Type 0
IsNodeOffer s kind number end None =
    (node : Node) → node_at s number ≡ Some node → (edge : ℕ × Tran) (time : ℤ) → IsLaunched s.design (data_split kind) edge (named node) time
    → launch_slacks s.design kind (named node) edge time end ≡ []
IsNodeOffer s kind number end (Some offer) =
    (node : Node) × (node_at s number ≡ Some node) × IsOffer s.design kind (named node) end offer × (unsigned_abs offer ≤ 10 ^ 18)

abbrev pub IsOfferOf : Stored → Kind → ℕ → ℕ → Option ℤ → Type 0
IsOfferOf s kind number end offer = (node : Node) → node_at s end ≡ Some node → IsNodeOffer s kind number (named node) offer

-- the offer of a place, where there is one
abbrev pub put_offer : ℕ → Option ℤ → List Offered
put_offer place None = []
put_offer place (Some offer) = record { node = place; offer = offer } ∷ []
