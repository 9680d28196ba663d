-- The setup and hold times of a cell between two of its nodes (Liberty reference manual, constraint tables).

use Rattle.std.specs.Prelude.{ℤ, Bool, false, not, ◌&&◌, List, filter, Option, Some, None, option_and_then}
use Rattle.std.specs.List.{list_all}
use Rattle.std.specs.Option.{option_map_or}
use Rattle.std.specs.Str.{bytes_eq}
use Rattle.sta_units.specs.Numbers.{is_within}
use Rattle.timing_defs.specs.declared.kinds.Split.TheVariants.{Late}
use Rattle.timing_defs.specs.declared.library.CellTest.{CellTest}
use Rattle.timing_defs.specs.Lookup.{look, is_well_formed}
use Rattle.timing_defs.specs.Netlist.{same_tran}
use Rattle.timing_rules.specs.Rows.{outermost}
use Rattle.timing_defs.specs.Kinds.{same_kind}
use Rattle.node_tests.specs.declared.needs.TestEnds.{TestEnds}

-- a test of the kind stands between the two nodes of its cell, by the names of their pins there
abbrev pub is_test_between : TestEnds → CellTest → Bool
is_test_between ends test =
    same_kind test.kind ends.kind && bytes_eq test.pin ends.pin.now && same_tran test.tran ends.tran
    && bytes_eq test.clock ends.clock.now && same_tran test.active ends.active

abbrev pub has_table : CellTest → Bool
has_table test = is_well_formed test.need

-- the time that a test needs at the slews of clock and data, within its limit
abbrev pub is_need_in : ℤ → ℤ → CellTest → Bool
is_need_in clock_slew data_slew test = is_within (look test.need clock_slew data_slew)

-- the greatest of the times that some tests need, after those so far
abbrev pub greatest_need : ℤ → ℤ → Option ℤ → List CellTest → Option ℤ
greatest_need clock_slew data_slew best tests = outermost Late (λ test. Some (look test.need clock_slew data_slew)) best tests

-- the same at slews that may be there
abbrev pub need_over : TestEnds → List CellTest → Option ℤ → Option ℤ → Option ℤ
need_over ends tests clock_slew data_slew =
    option_and_then (λ x. option_and_then (λ y. greatest_need x y None (filter (is_test_between ends) tests)) data_slew) clock_slew

abbrev pub is_need_wide : TestEnds → List CellTest → Option ℤ → Option ℤ → Bool
is_need_wide ends tests clock_slew data_slew =
    option_map_or (λ x. option_map_or (λ y. not (list_all (is_need_in x y) (filter (is_test_between ends) tests))) data_slew false) clock_slew false
