-- The totals of clocks over what captures endpoints.

use Rattle.std.specs.Prelude.{ℕ, ◌≡◌, Bool, List, is_some, is_none, count_by}
use Rattle.timing_defs.specs.declared.constraints.Clock.{Clock}
use Rattle.timing_defs.specs.declared.closing.TimingSummary.{TimingSummary}
use Rattle.timing_rules.specs.Summaries.{Captured, fails, slack_under, clock_summaries}

abbrev pub is_under : ℕ → Captured → Bool
is_under place captured = is_some (slack_under place captured)

abbrev pub fails_under : ℕ → Captured → Bool
fails_under place captured = fails (slack_under place captured)

-- the summary of a list of what captures endpoints
pub record IsSummaryOf (clocks : List Clock) (captured : List Captured) (s : TimingSummary) : Type 0 where
  pub rows : s.clocks ≡ clock_summaries 0 clocks captured
  pub untested : s.untested ≡ count_by is_none captured
