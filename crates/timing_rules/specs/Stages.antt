-- A path stage by stage with the path of its capture clock, and its required time by parts (as `report_checks -format
-- full_clock_expanded -fields {slew capacitance fanout}` of OpenSTA). Nothing is free.

use Rattle.std.specs.Prelude.{ℕ, ◌≡◌, ℤ, pos, ◌+ℤ◌, ◌-ℤ◌, neg_ℤ, if◌then◌else◌, List, [], ◌∷◌, map, length, Option, Some, None, option_map, option_and_then}
use Rattle.std.specs.Option.{unwrap_or}
use Rattle.timing_defs.specs.declared.kinds.Split.{Split}
use Rattle.timing_defs.specs.declared.kinds.Tran.{Tran}
use Rattle.timing_defs.specs.declared.kinds.Kind.{Kind}
use Rattle.timing_defs.specs.declared.kinds.Kind.TheVariants.{Setup, Hold}
use Rattle.timing_defs.specs.declared.rows.PathNode.{PathNode}
use Rattle.timing_defs.specs.declared.closing.DrivenNet.{DrivenNet}
use Rattle.timing_defs.specs.declared.closing.PathStage.{PathStage}
use Rattle.timing_defs.specs.declared.closing.RequiredParts.{RequiredParts}
use Rattle.timing_defs.specs.declared.closing.TestSort.{TestSort}
use Rattle.timing_defs.specs.declared.closing.TestSort.TheVariants.{SetupTime, HoldTime, OutputDelay}
use Rattle.timing_defs.specs.declared.closing.TimedPath.{TimedPath}
use Rattle.timing_defs.specs.declared.design.Design.{Design}
use Rattle.timing_defs.specs.Kinds.{data_split, clock_split}
use Rattle.timing_defs.specs.Netlist.{Pin, Node, name_of, net_of, sinks, is_driver, pin_named}
use Rattle.timing_defs.specs.RowTimes.{plus_some}
use Rattle.timing_defs.specs.Wires.{net_load}
use Rattle.timing_rules.specs.Paths.{Named, node_named, delay_between, walk_delay, start_of, last_of, launch_of, capture_of, moved, path_named, Holds, IsShown}
use Rattle.timing_rules.specs.Rows.{as_fs, slew, arrival}
use Rattle.timing_rules.specs.Tests.{Test, uncertainty_on}
use Rattle.timing_rules.specs.Through.{IsThrough}

-- the net that a driver drives, with its load and the count of its sinks
abbrev pub driven_net : Design → Split → List ℕ → DrivenNet
driven_net d split net = record { net = net; load = record { 0 = net_load d split net }; fanout = length (sinks d net) }

abbrev pub driven_by : Design → Split → Pin → Option DrivenNet
driven_by d split pin = (if is_driver pin then option_map (driven_net d split) (net_of pin) else None)

-- a node of a path behind the one before it: the delay of the arc between them, its slew, and what it drives
abbrev pub named_node : PathNode → Named
named_node n = (n.pin, n.tran)

abbrev pub stage_at : Design → Split → Option Named → PathNode → PathStage
stage_at d split before n =
    record {
      pin = n.pin;
      tran = n.tran;
      time = n.time;
      delay = as_fs (option_and_then (λ from. delay_between d split from (named_node n)) before);
      slew = as_fs (option_and_then (slew d split) (node_named d (named_node n)));
      drives = option_and_then (driven_by d split) (pin_named d n.pin);
    }

abbrev pub stages_from : Design → Split → Option Named → List PathNode → List PathStage
stages_from d split before [] = []
stages_from d split before (n ∷ ns) = stage_at d split before n ∷ stages_from d split (Some (named_node n)) ns

abbrev pub stages : Design → Split → List PathNode → List PathStage
stages d split ns = stages_from d split None ns

-- the capture path of a test: the walk of its clock pin, with the arrivals on the capture edge; none at an output port
abbrev pub capture_node : Design → Kind → Test → Node → PathNode
capture_node d kind test node =
    record {
      pin = name_of node.pin;
      tran = node.tran;
      time = record { 0 = unwrap_or (arrival d (clock_split kind) node test.capture) (pos 0) };
    }

abbrev pub capture_stages : Design → Kind → Test → List PathStage
capture_stages d kind test = stages d (clock_split kind) (map (capture_node d kind test) test.walk)

-- the parts of the required time, signed as they add up to it, by the separation with multicycles, the uncertainty and the
-- credit; then the arrival, and the slack that is left
abbrev pub sort_by : Kind → Option Node → TestSort
sort_by kind None = OutputDelay
sort_by Setup (Some clock) = SetupTime
sort_by Hold (Some clock) = HoldTime

abbrev pub parts_by : Kind → Test → ℤ → ℤ → ℤ → ℤ → RequiredParts
parts_by Setup test sep unc credit length =
    record {
      separation = record { 0 = sep };
      clock = record { 0 = test.early };
      sort = sort_by Setup test.clock;
      test = record { 0 = neg_ℤ test.need };
      uncertainty = record { 0 = neg_ℤ unc };
      credit = record { 0 = credit };
      required = record { 0 = sep +ℤ test.early -ℤ test.need -ℤ unc +ℤ credit };
      arrival = record { 0 = length };
      slack = record { 0 = sep +ℤ test.early -ℤ test.need -ℤ unc +ℤ credit -ℤ length };
    }
parts_by Hold test sep unc credit length =
    record {
      separation = record { 0 = sep };
      clock = record { 0 = test.late };
      sort = sort_by Hold test.clock;
      test = record { 0 = test.need };
      uncertainty = record { 0 = unc };
      credit = record { 0 = neg_ℤ credit };
      required = record { 0 = sep +ℤ test.late +ℤ test.need +ℤ unc -ℤ credit };
      arrival = record { 0 = length };
      slack = record { 0 = length -ℤ (sep +ℤ test.late +ℤ test.need +ℤ unc -ℤ credit) };
    }

-- the length of a path: its start time and the delays of its arcs; the parts for a path of this length by a test
abbrev pub length_of : Design → Split → Named → List Named → Option ℤ
length_of d split n ms =
    plus_some (option_and_then (λ (edge, time). Some time) (start_of d split n)) (walk_delay d split n ms)

abbrev pub parts_of : Design → Kind → Named → List Named → ℕ × Tran → ℤ → ℤ → Test → RequiredParts
parts_of d kind n ms edge credit length test =
    parts_by kind test
    (moved d kind (launch_of d n ms edge) (capture_of d (last_of n ms) test) edge test.capture)
    (uncertainty_on d kind test.capture.0) credit length

abbrev pub ArePartsOf : Design → Kind → List Named → ℕ × Tran → ℤ → Test → RequiredParts → Type 0
ArePartsOf d kind [] edge credit test parts = ⊥
ArePartsOf d kind (n ∷ ms) edge credit test parts =
    (length : ℤ) × (length_of d (data_split kind) n ms ≡ Some length) × (parts ≡ parts_of d kind n ms edge credit length test)

-- a path with its stages, those of its capture clock and its parts, by the test that counts
abbrev pub IsTimed : Design → Kind → TimedPath → Type 0
IsTimed d kind t =
    (test : Test) × Holds d kind t.path test
    × (t.stages ≡ stages d (data_split kind) t.path.nodes)
    × (t.capture ≡ capture_stages d kind test)
    × ArePartsOf d kind (path_named t.path) (t.path.launch_clock, t.path.launch_tran) t.path.credit.0 test t.parts

-- the shown path of an endpoint so, and the worst one through pins
abbrev pub IsTiming : Design → Kind → List ℕ → Option TimedPath → Type 0
IsTiming d kind pin None = IsShown d kind pin None
IsTiming d kind pin (Some t) = IsShown d kind pin (Some t.path) × IsTimed d kind t

abbrev pub IsTimingThrough : Design → Kind → List ℕ → List (List ℕ) → Option TimedPath → Type 0
IsTimingThrough d kind pin pins None = IsThrough d kind pin pins None
IsTimingThrough d kind pin pins (Some t) = IsThrough d kind pin pins (Some t.path) × IsTimed d kind t
