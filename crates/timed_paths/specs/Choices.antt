-- The test of a path's last node by which the path has its slack.

use Rattle.std.specs.Prelude.{ℕ, ◌≡◌, ◌<◌, ℤ, pos, ◌-ℤ◌, neg_ℤ, nat_eq, Bool, true, false, ◌&&◌, if◌then◌else◌, List, [], ◌∷◌, map, length, Contains, Option, Some, None}
use Rattle.std.specs.Option.{option_map_or}
use Rattle.std.specs.Ordering.{int_eq}
use Rattle.timing_defs.specs.declared.kinds.Tran.{Tran}
use Rattle.timing_defs.specs.declared.kinds.Kind.{Kind}
use Rattle.timing_defs.specs.declared.kinds.Kind.TheVariants.{Setup, Hold}
use Rattle.timing_defs.specs.declared.rows.Launch.{Launch}
use Rattle.timing_defs.specs.declared.rows.Capture.{Capture}
use Rattle.timing_defs.specs.declared.rows.Path.{Path}
use Rattle.timing_defs.specs.declared.rows.PathNode.{PathNode}
use Rattle.timing_defs.specs.declared.closing.TestSort.{TestSort}
use Rattle.timing_defs.specs.declared.closing.TestSort.TheVariants.{SetupTime, HoldTime}
use Rattle.timing_defs.specs.declared.design.Design.{Design}
use Rattle.timing_defs.specs.Netlist.{same_tran}
use Rattle.timing_defs.specs.Kinds.{data_split}
use Rattle.timing_rules.specs.Paths.{Named, launch_of, capture_of, last_of, credit, moved, path_named, clock_not_after, Holds}
use Rattle.timing_rules.specs.Rules.{is_tested}
use Rattle.timing_rules.specs.Stages.{parts_by, length_of}
use Rattle.timing_rules.specs.Tests.{Test, uncertainty_on}
use Rattle.netlist_store.specs.Numbering.{Stored}
use Rattle.node_tests.specs.declared.node_test.NodeTest.{NodeTest}
use Rattle.path_search.specs.Counts.{is_not_after}
use Rattle.path_search.specs.Slacks.{test_told}
use Rattle.timed_paths.specs.declared.choosing.Course.{Course}
use Rattle.timed_paths.specs.Ends.{edge_of_path, capture_of_path}
use Rattle.timed_paths.specs.Numbers.{number_named}
use Rattle.timed_paths.specs.TestNumbers.{test_of, IsKnownTest}

-- which test a register has
abbrev pub clocked_sort : Kind → TestSort
clocked_sort Setup = SetupTime
clocked_sort Hold = HoldTime

-- the parts of a required time by the kind of the test
abbrev pub capture_time : Kind → NodeTest → ℤ
capture_time Setup t = t.early.0
capture_time Hold t = t.late.0

abbrev pub against : Kind → ℤ → ℤ
against Setup time = neg_ℤ time
against Hold time = time

abbrev pub along : Kind → ℤ → ℤ
along Setup time = time
along Hold time = neg_ℤ time

abbrev pub same_edge : ℕ × Tran → ℕ × Tran → Bool
same_edge a b = nat_eq a.0 b.0 && same_tran a.1 b.1

-- the required time by a test; the parts have it whatever the length
abbrev pub required_by : Kind → Test → ℤ → ℤ → ℤ → ℤ
required_by kind test sep unc credit = (parts_by kind test sep unc credit (pos 0)).required.0

-- none where a false path removes the test
abbrev pub required_where : Design → Kind → Launch → Tran → Capture → NodeTest → ℤ → Option ℤ
required_where d kind launch from capture t credit =
    (if is_tested d.constraints kind launch capture
    then Some (required_by kind (test_told t)
    (moved d kind launch capture (launch.clock, from) (capture.clock, t.capture_tran)) (uncertainty_on d kind capture.clock) credit)
    else None)

-- what a required time leaves to a length
abbrev pub slack_left : Kind → ℤ → ℤ → ℤ
slack_left Setup required length = required -ℤ length
slack_left Hold required length = length -ℤ required

abbrev pub leaves : Kind → Option ℤ → ℤ → ℤ → Bool
leaves kind required length slack = option_map_or (λ r. int_eq (slack_left kind r length) slack) required false

-- a test leaves the path its slack, with its capture edge and its credit
abbrev pub required_of : Design → Kind → Path → Named → List Named → Test → ℤ → Option ℤ
required_of d kind p n ms test credit =
    (let launch = launch_of d n ms (edge_of_path p) in
    let capture = capture_of d (last_of n ms) test in
    if is_tested d.constraints kind launch capture
    then Some (required_by kind test
    (moved d kind launch capture (edge_of_path p) test.capture) (uncertainty_on d kind test.capture.0) credit)
    else None)

abbrev pub is_wanted_by : Design → Kind → Path → ℤ → List Named → Test → Bool
is_wanted_by d kind p length [] test = false
is_wanted_by d kind p length (n ∷ ms) test =
    same_edge test.capture (capture_of_path p) && int_eq (credit d (n ∷ ms) (edge_of_path p) test) p.credit.0
    && leaves kind (required_of d kind p n ms test p.credit.0) length p.slack.0

-- what a path's tests are judged by
pub record IsCourse (s : Stored) (kind : Kind) (p : Path) (c : Course) : Type 0 where
  pub first : Named
  pub more : List Named
  pub names : path_named p ≡ first ∷ more
  pub launch : (n : Named) (ms : List Named) → path_named p ≡ n ∷ ms
      → c.launch ≡ launch_of s.design n ms (edge_of_path p)
  pub pin : (n : Named) (ms : List Named) → path_named p ≡ n ∷ ms → c.pin ≡ (last_of n ms).0
  pub long : (n : Named) (ms : List Named) → path_named p ≡ n ∷ ms
      → length_of s.design (data_split kind) n ms ≡ Some c.length.0
  pub numbers : c.numbers ≡ map (number_named s) (path_named p)
  pub clock : p.launch_clock < length s.design.constraints.clocks

abbrev pub is_wanted : Stored → Kind → Path → Course → NodeTest → Bool
is_wanted s kind p c t = is_wanted_by s.design kind p c.length.0 (path_named p) (test_of s t)

abbrev pub first_of : Stored → Option NodeTest → NodeTest → NodeTest
first_of s None next = next
first_of s (Some best) next = (if is_not_after s best.clock next.clock then best else next)

-- of some wanted tests one whose clock pin's node does not come after those of the others
abbrev pub IsFirst : Stored → (NodeTest → Bool) → List NodeTest → Option NodeTest → Type 0
IsFirst s wanted tests None = (t : NodeTest) → Contains tests t → wanted t ≡ true → ⊥
IsFirst s wanted tests (Some c) =
    Contains tests c × (wanted c ≡ true)
    × ((t : NodeTest) → Contains tests t → wanted t ≡ true →
    clock_not_after (test_of s c).clock (test_of s t).clock ≡ true)

-- a test by which a path counts
pub record IsCounting (s : Stored) (kind : Kind) (p : Path) (t : NodeTest) : Type 0 where
  pub known : IsKnownTest s t
  pub holds : Holds s.design kind p (test_of s t)
