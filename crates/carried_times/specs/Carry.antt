-- Times of both splits, and the outer ones of two.

use Rattle.std.specs.Prelude.{if◌then◌else◌, ℤ, nat_le, unsigned_abs, Bool, true, Option, None}
use Rattle.std.specs.Option.{option_map_or}
use Rattle.timing_defs.specs.declared.kinds.Split.{Split}
use Rattle.timing_defs.specs.declared.kinds.Split.TheVariants.{Early, Late}
use Rattle.timing_defs.specs.declared.rows.NodeRow.{NodeRow}
use Rattle.timing_rules.specs.Rows.{outer_some}
use Rattle.timing_defs.specs.RowTimes.{plus_some}
use Rattle.carried_times.specs.declared.carried.Carried.{Carried}
use Rattle.carried_times.specs.Times.{outermost_time}
use Rattle.carried_times.specs.Unseeded.{same_time}

abbrev pub time_of : Split → Carried → Option ℤ
time_of Early c = c.early
time_of Late c = c.late

abbrev pub no_times : Carried
no_times = record { early = None; late = None }

abbrev pub merged : Carried → Carried → Carried
merged one other = record { early = outer_some Early one.early other.early; late = outer_some Late one.late other.late }

-- the outermost arrivals of a row
abbrev pub arrivals_of : NodeRow → Carried
arrivals_of row = record { early = outermost_time Early row.early; late = outermost_time Late row.late }

-- no farther from 0 than that, where it is there
abbrev pub is_near : Option ℤ → Bool
is_near time = option_map_or (λ t. nat_le (unsigned_abs t) 4194304000000000000) time true

-- the time behind a step with these delays before and after the edit: with one delay from the time carried to the node before it, else from
-- the outermost arrivals there before and after
abbrev pub step_of : Split → Option ℤ → Option ℤ → Option ℤ → Option ℤ → Option ℤ → Option ℤ
step_of split was now time before after = (if same_time was now then plus_some time now else outer_some split (plus_some before was) (plus_some after now))
