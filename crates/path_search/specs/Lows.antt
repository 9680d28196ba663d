-- The lowest offers of an end node, launch edge by launch edge, over all launches: what a search for the least slack is bounded by.

use Rattle.std.specs.Prelude.{ℕ, ℤ, pos, List, Option, Some, None, option_map}
use Rattle.std.specs.List.{filter_map}
use Rattle.timing_defs.specs.declared.edge_times.EdgeTime.{EdgeTime}
use Rattle.timing_defs.specs.declared.kinds.Kind.{Kind}
use Rattle.timing_defs.specs.declared.kinds.Kind.TheVariants.{Setup, Hold}
use Rattle.timing_defs.specs.declared.kinds.Split.TheVariants.{Early}
use Rattle.timing_defs.specs.declared.kinds.Tran.{Tran}
use Rattle.timing_defs.specs.declared.constraints.Constraints.{Constraints}
use Rattle.timing_defs.specs.declared.design.Design.{Design}
use Rattle.timing_rules.specs.Paths.{slack_by}
use Rattle.timing_rules.specs.Rows.{edge_time, launch_edges, outermost}
use Rattle.timing_rules.specs.Rules.{with_cycles}
use Rattle.timing_rules.specs.Tests.{on_clocks, separation_on, uncertainty_on}
use Rattle.path_rules.specs.Ranges.{range_of}
use Rattle.pessimism_credit.specs.declared.rows.TreeRow.{TreeRow}
use Rattle.pessimism_credit.specs.Credit.{least_credit_of}
use Rattle.path_search.specs.declared.ends.EndTest.{EndTest}
use Rattle.path_search.specs.Slacks.{test_told}

-- the numbers of cycles with which a slack is least, over all launches and captures
abbrev pub low_setup : Constraints → Kind → ℕ
low_setup c Setup = (range_of c Setup).fewest
low_setup c Hold = (range_of c Setup).most

abbrev pub low_hold : Constraints → ℕ
low_hold c = (range_of c Hold).fewest

-- the separation with these
abbrev pub low_apart : Design → Kind → ℕ × Tran → ℕ × Tran → ℤ
low_apart d kind from to =
    on_clocks d (λ l c. with_cycles kind (separation_on d kind from to) (low_setup d.constraints kind) (low_hold d.constraints) l c) from.0 to.0

-- the least credit of a clock pin's place; 0 where it has none
abbrev pub low_credit : List TreeRow → Option ℕ → ℤ
low_credit rows None = pos 0
low_credit rows (Some b) = least_credit_of rows b

abbrev pub capture_on : EndTest → ℕ × Tran
capture_on t = (t.test.capture_clock, t.test.capture_tran)

-- what no launch on an edge offers less than by a test, with its arrival put back
abbrev pub low_told : Design → Kind → List TreeRow → ℕ × Tran → EndTest → ℤ
low_told d kind rows edge t =
    slack_by kind (test_told t.test) (low_apart d kind edge (capture_on t)) (uncertainty_on d kind t.test.capture_clock) (low_credit rows t.place) (pos 0)

-- the least over tests, where there is a test
abbrev pub low_over : Design → Kind → List TreeRow → List EndTest → ℕ × Tran → Option ℤ
low_over d kind rows tests edge = outermost Early (λ t. Some (low_told d kind rows edge t)) None tests

-- on each launch edge
abbrev pub lows_told : Design → Kind → List TreeRow → List EndTest → List EdgeTime
lows_told d kind rows tests = filter_map (λ edge. option_map (edge_time edge) (low_over d kind rows tests edge)) (launch_edges d)
