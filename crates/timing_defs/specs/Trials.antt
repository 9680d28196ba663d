-- The trials inside a question about a draft and the rows inside its report, as lists. (A type that holds itself shows its
-- items in a form of its own; `WhatIf'` and `Drafted'` have them so.)

use Rattle.std.specs.Prelude.{List}
use Rattle.timing_defs.specs.declared.reports.Query.{Row_of-Trial, items-the_row-Trial}
use Rattle.timing_defs.specs.declared.reports.Trial.{Trial}
use Rattle.timing_defs.specs.declared.reports.Report.{Row_of-TrialRow, items-the_row-TrialRow}
use Rattle.timing_defs.specs.declared.reports.TrialRow.{TrialRow}

abbrev pub trials_in : {n : _} → Row_of-Trial n → List Trial
trials_in trials = items-the_row-Trial _ trials

abbrev pub rows_in : {n : _} → Row_of-TrialRow n → List TrialRow
rows_in rows = items-the_row-TrialRow _ rows
