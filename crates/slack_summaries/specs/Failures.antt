-- The rows before the first whose slack is not negative.

use Rattle.std.specs.Prelude.{ℕ, Bool, not, if◌then◌else◌, nat_lt, List, length}
use Rattle.std.specs.List.{position}
use Rattle.std.specs.Option.{unwrap_or}
use Rattle.timing_defs.specs.declared.kinds.Kind.{Kind}
use Rattle.timing_defs.specs.declared.design.Design.{Design}
use Rattle.timing_defs.specs.declared.reports.EndRow.{EndRow}
use Rattle.timing_rules.specs.Reports.{AreWorst}
use Rattle.timing_rules.specs.Summaries.{is_negative}

abbrev pub is_met : EndRow → Bool
is_met row = not (is_negative row.slack.0)

abbrev pub negative_count : List EndRow → ℕ
negative_count rows = unwrap_or (position is_met rows) (length rows)

-- at most 10,000 rows are listed
abbrev pub listed_count : ℕ → ℕ
listed_count negative = (if nat_lt negative 10000 then negative else 10000)

-- the worst endpoints, at most so many
pub record AreWorstRows (d : Design) (kind : Kind) (count : ℕ) (rows : List EndRow) : Type 0 where
  pub worst : AreWorst d kind count rows
