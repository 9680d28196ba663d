-- Questions about all endpoints: the worst paths of the design, the endpoints that fail, the totals by capture clock (as
-- `report_checks -endpoint_count` and `report_check_types`, worst and total slack by path group, of OpenSTA), and the skews
-- of launch edges (as `report_clock_skew`). Nothing is free.

use Rattle.std.specs.Prelude.{ℕ, ◌≡◌, ◌+◌, ℤ, pos, ◌-ℤ◌, int_lt, nat_eq, Bool, true, false, is_none, is_some, ◌&&◌, if◌then◌else◌, List, [], ◌∷◌, map, filter, length, Option, Some, None, ⊤}
use Rattle.std.specs.List.{Contains, filter_map, list_any}
use Rattle.std.specs.Option.{option_map_or}
use Rattle.std.specs.Ordering.{is_gt}
use Rattle.timing_defs.specs.declared.kinds.Split.{Split}
use Rattle.timing_defs.specs.declared.kinds.Split.TheVariants.{Early, Late}
use Rattle.timing_defs.specs.declared.kinds.Tran.{Tran}
use Rattle.timing_defs.specs.declared.kinds.Kind.{Kind}
use Rattle.timing_defs.specs.declared.rows.Path.{Path}
use Rattle.timing_defs.specs.declared.rows.PathNode.{PathNode}
use Rattle.timing_defs.specs.declared.constraints.Clock.{Clock}
use Rattle.timing_defs.specs.declared.reports.EndRow.{EndRow}
use Rattle.timing_defs.specs.declared.closing.FailingEndpoints.{FailingEndpoints}
use Rattle.timing_defs.specs.declared.closing.ClockSummary.{ClockSummary}
use Rattle.timing_defs.specs.declared.closing.TimingSummary.{TimingSummary}
use Rattle.timing_defs.specs.declared.closing.SkewReport.{SkewReport}
use Rattle.timing_defs.specs.declared.design.Design.{Design}
use Rattle.timing_defs.specs.Firsts.{AreFirst}
use Rattle.timing_defs.specs.Netlist.{Node, nodes}
use Rattle.timing_rules.specs.Clocking.{is_clock_pin, is_network}
use Rattle.timing_rules.specs.Paths.{named, named_cmp, IsSlack, IsShown, Holds}
use Rattle.timing_rules.specs.Ranking.{Ranked, ranked, comes_before, IsRanked}
use Rattle.timing_rules.specs.Reports.{endpoints, AreSlacks, least_slack, total_slack, goes_before, IsEndRow}
use Rattle.timing_rules.specs.Rows.{as_fs, outer, arrival, launch_edges}
use Rattle.timing_rules.specs.Tests.{Test}

-- a path that may be among the worst of the design: one of so many worst of an endpoint
abbrev pub IsEligible : Design → Kind → ℕ → Ranked → Type 0
IsEligible d kind each r =
    (pin : List ℕ) × (ends : List Ranked)
    × Contains (endpoints d) pin × AreFirst comes_before each (IsRanked d kind pin) ends × Contains ends r

-- the worst paths of the design, at most so many of all and so many of one endpoint
abbrev pub AreDesignPaths : Design → Kind → ℕ → ℕ → List Path → Type 0
AreDesignPaths d kind count each paths =
    ((p : Path) → Contains paths p → (test : Test) × Holds d kind p test)
    × AreFirst comes_before count (IsEligible d kind each) (map ranked paths)

-- an endpoint fails where its slack is negative
abbrev pub is_negative : ℤ → Bool
is_negative slack = int_lt slack (pos 0)

abbrev pub fails : Option ℤ → Bool
fails slack = option_map_or is_negative slack false

abbrev pub IsFailing : Design → Kind → EndRow → Type 0
IsFailing d kind row = IsEndRow d kind row × (is_negative row.slack.0 ≡ true)

abbrev pub AreFailing : Design → Kind → FailingEndpoints → Type 0
AreFailing d kind f =
    ((slacks : List (Option ℤ)) × AreSlacks d kind (endpoints d) slacks × (f.count ≡ length (filter fails slacks)))
    × AreFirst goes_before 10000 (IsFailing d kind) f.rows

-- the capture clock and the slack of the shown path of pins, one by one
abbrev pub Captured : Type 0
Captured = Option (ℕ × ℤ)

abbrev pub IsCaptured : Design → Kind → List ℕ → Captured → Type 0
IsCaptured d kind pin None = IsSlack d kind pin None
IsCaptured d kind pin (Some (clock, slack)) =
    (p : Path) × IsShown d kind pin (Some p) × (p.capture_clock ≡ clock) × (p.slack.0 ≡ slack)

abbrev pub AreCaptured : Design → Kind → List (List ℕ) → List Captured → Type 0
AreCaptured d kind [] [] = ⊤
AreCaptured d kind [] (c ∷ captured) = ⊥
AreCaptured d kind (e ∷ ends) [] = ⊥
AreCaptured d kind (e ∷ ends) (c ∷ captured) = IsCaptured d kind e c × AreCaptured d kind ends captured

-- the slacks of the endpoints that a clock captures, and its totals
abbrev pub slack_under : ℕ → Captured → Option ℤ
slack_under place None = None
slack_under place (Some (clock, slack)) = (if nat_eq clock place then Some slack else None)

abbrev pub clock_slacks : ℕ → List Captured → List ℤ
clock_slacks place captured = filter_map (slack_under place) captured

abbrev pub clock_summary : ℕ → List ℤ → ClockSummary
clock_summary place slacks =
    record {
      clock = place;
      tested = length slacks;
      failing = length (filter is_negative slacks);
      wns = as_fs (least_slack None (map Some slacks));
      tns = record { 0 = total_slack (map Some slacks) };
    }

abbrev pub clock_summaries : ℕ → List Clock → List Captured → List ClockSummary
clock_summaries place [] captured = []
clock_summaries place (clock ∷ clocks) captured =
    clock_summary place (clock_slacks place captured) ∷ clock_summaries (place + 1) clocks captured

abbrev pub IsSummary : Design → Kind → TimingSummary → Type 0
IsSummary d kind s =
    (captured : List Captured)
    × AreCaptured d kind (endpoints d) captured
    × (s.clocks ≡ clock_summaries 0 d.constraints.clocks captured)
    × (s.untested ≡ length (filter is_none captured))

-- a node of a register's clock pin that is in a clock network
abbrev pub clocks_register : Design → Node → Bool
clocks_register d node = is_clock_pin d node.pin && is_network d node.pin

abbrev pub clock_nodes : Design → List Node
clock_nodes d = filter (clocks_register d) (nodes d)

-- the clock node of outermost arrival on a launch edge, of equal ones the first by name, rise before fall
abbrev pub IsOutermost : Design → Split → ℕ × Tran → PathNode → Type 0
IsOutermost d split edge row =
    ((node : Node) × Contains (clock_nodes d) node × (named node ≡ (row.pin, row.tran)) × (arrival d split node edge ≡ Some row.time.0))
    × ((node : Node) (time : ℤ) → Contains (clock_nodes d) node → arrival d split node edge ≡ Some time →
    (outer split row.time.0 time ≡ row.time.0)
    × (time ≡ row.time.0 → is_gt (named_cmp (row.pin, row.tran) (named node)) ≡ false))

abbrev pub IsSkew : Design → ℕ × Tran → SkewReport → Type 0
IsSkew d edge s =
    ((s.clock, s.tran) ≡ edge)
    × IsOutermost d Late edge s.late
    × IsOutermost d Early edge s.early
    × (s.skew.0 ≡ s.late.time.0 -ℤ s.early.time.0)

-- the skews of the launch edges that reach such a pin, in order
abbrev pub reaches_register : Design → ℕ × Tran → Bool
reaches_register d edge = list_any (λ node. is_some (arrival d Late node edge)) (clock_nodes d)

abbrev pub AreSkewsOf : Design → List (ℕ × Tran) → List SkewReport → Type 0
AreSkewsOf d [] [] = ⊤
AreSkewsOf d [] (s ∷ skews) = ⊥
AreSkewsOf d (edge ∷ edges) [] = ⊥
AreSkewsOf d (edge ∷ edges) (s ∷ skews) = IsSkew d edge s × AreSkewsOf d edges skews

abbrev pub AreSkews : Design → List SkewReport → Type 0
AreSkews d skews = AreSkewsOf d (filter (reaches_register d) (launch_edges d)) skews
