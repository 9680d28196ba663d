-- Clocks as constraints have them (SDC `create_clock`).

use Rattle.std.specs.Prelude.{pos, ◌+ℤ◌, ◌≤ℤ◌, ◌<ℤ◌}
use Rattle.sta_units.specs.Numbers.{Within}
use Rattle.timing_defs.specs.declared.constraints.Clock.{Clock}

-- a period of at least 2 fs, and a rise and a fall within one period from 0 on, all within the limit
pub record IsClock (clock : Clock) : Type 0 where
  pub period : pos 2 ≤ℤ clock.period.0
  pub rise : pos 0 ≤ℤ clock.rise.0
  pub fall : clock.rise.0 <ℤ clock.fall.0
  pub within : clock.fall.0 <ℤ (clock.rise.0 +ℤ clock.period.0)
  pub period_limit : Within clock.period.0
  pub rise_limit : Within clock.rise.0
