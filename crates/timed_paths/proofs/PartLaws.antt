-- The parts of the required time of a path by a test that counts.

use Rattle.std.proofs.Common.{◌≡◌, ℕ, ◌<◌, ℤ, pos, List, [], ◌∷◌, map, filter, length, Option, None, Some, refl, sym, ap, subst, ◌∙◌}
use Rattle.std.specs.Prelude.{Contains, option_and_then}
use Rattle.std.specs.Option.{option_map_or}
use Rattle.timing_defs.specs.declared.kinds.Tran.{Tran}
use Rattle.timing_defs.specs.declared.kinds.Kind.{Kind}
use Rattle.timing_defs.specs.declared.kinds.Kind.TheVariants.{Setup, Hold}
use Rattle.timing_defs.specs.declared.rows.Capture.{Capture}
use Rattle.timing_defs.specs.declared.rows.Launch.{Launch}
use Rattle.timing_defs.specs.declared.rows.Path.{Path}
use Rattle.timing_defs.specs.declared.closing.RequiredParts.{RequiredParts}
use Rattle.timing_defs.specs.declared.closing.TestSort.{TestSort}
use Rattle.timing_defs.specs.declared.closing.TestSort.TheVariants.{SetupTime, HoldTime, OutputDelay}
use Rattle.timing_defs.specs.Netlist.{Node}
use Rattle.timing_defs.specs.declared.design.Design.{Design}
use Rattle.timing_defs.specs.Kinds.{data_split}
use Rattle.timing_defs.proofs.Members.{some_is, in_map_back}
use Rattle.timing_rules.specs.Tests.{Test, tests_at, uncertainty_on}
use Rattle.timing_rules.specs.Paths.{Named, node_named, launch_of, capture_of, last_of, credit, moved, slack_of, tests_path, path_named, Holds}
use Rattle.timing_rules.specs.Stages.{length_of, sort_by, parts_by, parts_of, ArePartsOf}
use Rattle.netlist_store.specs.Numbering.{Stored}
use Rattle.pin_graph.specs.Nodes.{node_at}
use Rattle.node_tests.specs.NodeTests.{IsClockNode}
use Rattle.node_tests.specs.declared.node_test.NodeTest.{NodeTest}
use Rattle.path_search.specs.Slacks.{test_told}
use Rattle.timed_paths.specs.declared.choosing.Course.{Course}
use Rattle.timed_paths.specs.Choices.{against, along, capture_time, clocked_sort, required_by, slack_left, IsCourse, IsCounting}
use Rattle.timed_paths.specs.Ends.{capture_named, edge_of_path}
use Rattle.timed_paths.specs.Found.{ArePartsIn}
use Rattle.timed_paths.specs.TestNumbers.{test_of}
use Rattle.timed_paths.proofs.ChoiceLaws.{left_is}
use Rattle.timed_paths.proofs.PathLaws.{first, more, size, names, slacks_are, long}

-- the slack of the path is that by the test
slack_here : (d : Design) (kind : Kind) (p : Path) (test : Test) (h : Holds d kind p test)
    → slack_of d kind (first d kind p test h) (more d kind p test h) (edge_of_path p) (size d kind p test h) test ≡ p.slack.0
slack_here d kind p test h =
    let all : List Test = option_map_or (tests_at d kind) (node_named d (last_of (first d kind p test h) (more d kind p test h))) [] in
    let with_slack : Test → Test × ℤ = λ (t : Test). (t, slack_of d kind (first d kind p test h) (more d kind p test h) (edge_of_path p) (size d kind p test h) t) in
    let m = in_map_back with_slack (filter (tests_path d kind (first d kind p test h) (more d kind p test h) (edge_of_path p)) all) (test, p.slack.0)
    (subst (λ (xs : List (Test × ℤ)). Contains xs (test, p.slack.0)) (slacks_are d kind p test h) h.0.0) in
    ap (λ (t : Test). slack_of d kind (first d kind p test h) (more d kind p test h) (edge_of_path p) (size d kind p test h) t) (sym (ap (λ (q : Test × ℤ). q.0) m.same))
    ∙ ap (λ (q : Test × ℤ). q.1) m.same

module _ (s : Stored) (kind : Kind) (p : Path) (c : Course) (course : IsCourse s kind p c) (t : NodeTest) (its : IsCounting s kind p t) where
  abbrev d : Design
  d = s.design

  abbrev test : Test
  test = test_of s t

  abbrev n : Named
  n = first d kind p test its.holds

  abbrev ms : List Named
  ms = more d kind p test its.holds

  abbrev captured : Capture
  captured = capture_named d c.pin t.capture_clock

  abbrev apart : ℤ
  apart = moved d kind c.launch captured (c.launch.clock, p.launch_tran) (captured.clock, t.capture_tran)

  the_names : path_named p ≡ n ∷ ms
  the_names = names d kind p test its.holds

  launch_is : c.launch ≡ launch_of d n ms (edge_of_path p)
  launch_is = course.launch n ms the_names

  capture_is : captured ≡ capture_of d (last_of n ms) test
  capture_is = ap (λ (pin : List ℕ). capture_named d pin t.capture_clock) (course.pin n ms the_names)

  pub launch_low : c.launch.clock < length d.constraints.clocks
  launch_low = subst (λ (l : Launch). l.clock < length d.constraints.clocks) (sym launch_is) course.clock

  apart_is : apart ≡ moved d kind (launch_of d n ms (edge_of_path p)) (capture_of d (last_of n ms) test) (edge_of_path p) test.capture
  apart_is = λ i. moved d kind (launch_is i) (capture_is i) ((launch_is i).clock, p.launch_tran) (t.capture_clock, t.capture_tran)

  pub moved_as : (sep : ℤ) (capture : Capture) → capture ≡ captured → sep ≡ moved d kind c.launch capture (c.launch.clock, p.launch_tran) (capture.clock, t.capture_tran) → sep ≡ apart
  moved_as sep capture same e = e ∙ ap (λ (k : Capture). moved d kind c.launch k (c.launch.clock, p.launch_tran) (k.clock, t.capture_tran)) same

  pub credit_is : (found : ℤ) → found ≡ credit d (path_named p) (edge_of_path p) test → found ≡ p.credit.0
  credit_is found e = e ∙ sym its.holds.4

  pub slack_is : (sep unc found : ℤ) → sep ≡ apart → unc ≡ uncertainty_on d kind t.capture_clock → found ≡ credit d (path_named p) (edge_of_path p) test
      → slack_left kind (required_by kind test sep unc found) c.length.0 ≡ p.slack.0
  slack_is sep unc found a u e =
      (λ i. slack_left kind (required_by kind test ((a ∙ apart_is) i) (u i) ((e ∙ ap (λ (xs : List Named). credit d xs (edge_of_path p) test) the_names) i)) (length_told i))
      ∙ sym (left_is kind test (moved d kind (launch_of d n ms (edge_of_path p)) (capture_of d (last_of n ms) test) (edge_of_path p) test.capture) (uncertainty_on d kind t.capture_clock)
      (credit d (n ∷ ms) (edge_of_path p) test) (size d kind p test its.holds))
      ∙ slack_here d kind p test its.holds
    where
      length_told : c.length.0 ≡ size d kind p test its.holds
      length_told = some_is (sym (course.long n ms the_names) ∙ long d kind p test its.holds)

  pub parts_are : (sep unc found : ℤ) → sep ≡ apart → unc ≡ uncertainty_on d kind t.capture_clock → found ≡ credit d (path_named p) (edge_of_path p) test
      → (parts : RequiredParts) → parts ≡ parts_by kind test sep unc found c.length.0 → ArePartsIn s kind p t parts
  parts_are sep unc found a u e parts made =
      subst (λ (xs : List Named). ArePartsOf d kind xs (edge_of_path p) p.credit.0 test parts) (sym the_names) (
        c.length.0,
        course.long n ms the_names,
        made ∙ (λ i. parts_by kind test ((a ∙ apart_is) i) (u i) (credit_is found e i) c.length.0),
      )

-- which test it is
pub sort_none : (s : Stored) (kind : Kind) (o : Option ℕ) → o ≡ None → OutputDelay ≡ sort_by kind (option_and_then (node_at s) o)
sort_none s kind o e = by kind ∙ sym (ap (λ q. sort_by kind (option_and_then (node_at s) q)) e)
  where
    by : (t : Kind) → OutputDelay ≡ sort_by t None
    by Setup = refl
    by Hold = refl

pub sort_some : (s : Stored) (kind : Kind) (o : Option ℕ) (k : ℕ) → o ≡ Some k → IsClockNode s o (option_and_then (node_at s) o) → (sort : TestSort) → sort ≡ clocked_sort kind
    → sort ≡ sort_by kind (option_and_then (node_at s) o)
sort_some s kind o k e a sort its =
    its ∙ by kind (node_at s k) (subst (λ q. IsClockNode s q (option_and_then (node_at s) q)) e a) ∙ sym (ap (λ q. sort_by kind (option_and_then (node_at s) q)) e)
  where
    by : (t : Kind) (n : Option Node) → IsClockNode s (Some k) n → clocked_sort t ≡ sort_by t n
    by Setup (Some n) a = refl
    by Hold (Some n) a = refl
    by t None a = absurd a

-- the parts field by field
pub parts_told : (s : Stored) (t : NodeTest) (kind : Kind) (sep unc cr len : ℤ) (made : RequiredParts) → made.separation.0 ≡ sep → made.clock.0 ≡ capture_time kind t
    → made.sort ≡ sort_by kind (test_of s t).clock → made.test.0 ≡ against kind t.need.0 → made.uncertainty.0 ≡ against kind unc → made.credit.0 ≡ along kind cr
    → made.required.0 ≡ required_by kind (test_told t) sep unc cr → made.arrival.0 ≡ len → slack_left kind (required_by kind (test_of s t) sep unc cr) len ≡ made.slack.0
    → made ≡ parts_by kind (test_of s t) sep unc cr len
parts_told s t Setup sep unc cr len made a b c e f g h j k = λ i. record {
  separation = record { 0 = a i };
  clock = record { 0 = b i };
  sort = c i;
  test = record { 0 = e i };
  uncertainty = record { 0 = f i };
  credit = record { 0 = g i };
  required = record { 0 = h i };
  arrival = record { 0 = j i };
  slack = record { 0 = sym k i };
}
parts_told s t Hold sep unc cr len made a b c e f g h j k = λ i. record {
  separation = record { 0 = a i };
  clock = record { 0 = b i };
  sort = c i;
  test = record { 0 = e i };
  uncertainty = record { 0 = f i };
  credit = record { 0 = g i };
  required = record { 0 = h i };
  arrival = record { 0 = j i };
  slack = record { 0 = sym k i };
}
