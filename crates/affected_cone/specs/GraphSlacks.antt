-- The graph slack of a node from its arrivals and its required times (OpenTimer).

use Rattle.std.specs.Prelude.{ℕ, ℤ, Option}
use Rattle.timing_defs.specs.declared.kinds.Split.{Split}
use Rattle.timing_defs.specs.declared.kinds.Split.TheVariants.{Early, Late}
use Rattle.timing_defs.specs.declared.kinds.Tran.{Tran}
use Rattle.timing_defs.specs.declared.rows.NodeRow.{NodeRow}
use Rattle.timing_defs.specs.declared.rows.BackRow.{BackRow}
use Rattle.timing_defs.specs.RowTimes.{time_on}
use Rattle.timing_rules.specs.Required.{less_some}

-- on a launch edge: required less arrival, or arrival less required
abbrev pub slack_between : Split → NodeRow → BackRow → ℕ × Tran → Option ℤ
slack_between Late row back edge = less_some (time_on back.late edge) (time_on row.late edge)
slack_between Early row back edge = less_some (time_on row.early edge) (time_on back.early edge)
