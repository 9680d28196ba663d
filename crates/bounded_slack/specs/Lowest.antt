-- Lowest slacks over what is not known of a path: by separations, cycles and credits of which none gives
-- a lesser slack (SDC multicycles; TAU 2015 contest: clock pessimism removal).

use Rattle.std.specs.Prelude.{◌≡◌, ℕ, ◌≤◌, ℤ, pos, ◌≤ℤ◌, Some, slice_get}
use Rattle.timing_defs.specs.declared.kinds.Kind.{Kind}
use Rattle.timing_defs.specs.declared.kinds.Kind.TheVariants.{Setup, Hold}
use Rattle.timing_defs.specs.declared.kinds.Tran.{Tran}
use Rattle.timing_defs.specs.declared.constraints.Clock.{Clock}
use Rattle.timing_defs.specs.declared.design.Design.{Design}
use Rattle.timing_rules.specs.Tests.{Test, separation_on, uncertainty_on, on_clocks}
use Rattle.timing_rules.specs.Rules.{with_cycles}
use Rattle.timing_rules.specs.Paths.{slack_by}

-- cycles of setup and hold that give no greater slack than others: no more setup cycles for setup, no
-- fewer setup and no more hold cycles for hold
abbrev pub AreLow : Kind → ℕ → ℕ → ℕ → ℕ → Type 0
AreLow Setup low_setup low_hold setup hold = low_setup ≤ setup
AreLow Hold low_setup low_hold setup hold = (setup ≤ low_setup) × (low_hold ≤ hold)

-- the separation of two edges moved by these cycles
abbrev pub moved_by : Design → Kind → ℕ → ℕ → ℕ × Tran → ℕ × Tran → ℤ
moved_by d kind setup hold from to = on_clocks d (λ l c. with_cycles kind (separation_on d kind from to) setup hold l c) from.0 to.0

-- the slack of paths that are launched at 0, by these cycles and this credit
abbrev pub low_slack : Design → Kind → ℕ → ℕ → ℕ × Tran → Test → ℤ → ℤ
low_slack d kind setup hold edge test credit =
    slack_by kind test (moved_by d kind setup hold edge test.capture) (uncertainty_on d kind test.capture.0) credit (pos 0)

-- clock periods are not negative
abbrev pub ArePeriods : Design → Type 0
ArePeriods d = (place : ℕ) (clock : Clock) → slice_get d.constraints.clocks place ≡ Some clock → pos 0 ≤ℤ clock.period.0
