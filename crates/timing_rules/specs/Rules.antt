-- Exceptions: false paths and multicycles between what launches a path and what captures it (SDC).

use Rattle.std.specs.Prelude.{ℕ, ℤ, pos, ◌+ℤ◌, ◌-ℤ◌, ◌*ℤ◌, Bool, true, false, not, ◌&&◌, ◌||◌, if◌then◌else◌, List, [], ◌∷◌, slice_get, Option, Some, None, is_none}
use Rattle.std.specs.List.{list_any}
use Rattle.std.specs.Option.{option_map_or, unwrap_or}
use Rattle.std.specs.Str.{bytes_eq}
use Rattle.timing_defs.specs.declared.kinds.Kind.{Kind}
use Rattle.timing_defs.specs.declared.kinds.Kind.TheVariants.{Setup, Hold}
use Rattle.timing_defs.specs.declared.constraints.Clock.{Clock}
use Rattle.timing_defs.specs.declared.constraints.Object.{Object}
use Rattle.timing_defs.specs.declared.constraints.Object.TheVariants.{Clock as clock_object, Port, Pin, Cell, Any}
use Rattle.timing_defs.specs.declared.constraints.Effect.{Effect}
use Rattle.timing_defs.specs.declared.constraints.Effect.TheVariants.{FalseSetup, FalseHold, CyclesSetup, CyclesHold}
use Rattle.timing_defs.specs.declared.constraints.Exception.{Exception}
use Rattle.timing_defs.specs.declared.constraints.Constraints.{Constraints}
use Rattle.timing_defs.specs.declared.rows.Launch.{Launch}
use Rattle.timing_defs.specs.declared.rows.Capture.{Capture}
use Rattle.timing_defs.specs.Names.{as_pin}

-- what an object of an exception is compared with: a pin, the instance that owns it, and a clock
pub record End : Type 0 where
  pub pin : List ℕ
  pub cell : Option (List ℕ)
  pub clock : ℕ

abbrev pub launch_end : Launch → End
launch_end l = record { pin = l.pin; cell = l.cell; clock = l.clock }

abbrev pub capture_end : Capture → End
capture_end c = record { pin = c.pin; cell = c.cell; clock = c.clock }

abbrev pub has_clock : List Clock → ℕ → List ℕ → Bool
has_clock clocks place name = option_map_or (λ clock. bytes_eq clock.name name) (slice_get clocks place) false

abbrev pub is_clock_name : List Clock → List ℕ → Bool
is_clock_name clocks name = list_any (λ clock. bytes_eq clock.name name) clocks

abbrev pub is_cell : End → List ℕ → Bool
is_cell e name = option_map_or (bytes_eq name) e.cell false

-- a word of no written kind is the clock of its name where there is one, else the port, the pin and the cell of its name
abbrev pub is_object : List Clock → End → Object → Bool
is_object clocks e (clock_object name) = has_clock clocks e.clock name
is_object clocks e (Port name) = bytes_eq e.pin name
is_object clocks e (Pin name) = bytes_eq e.pin name
is_object clocks e (Cell name) = is_cell e name
is_object clocks e (Any name) =
    (if is_clock_name clocks name then has_clock clocks e.clock name
    else (is_none e.cell && bytes_eq e.pin name) || bytes_eq e.pin (as_pin name) || is_cell e name)

-- a list matches where one of its objects does, and an absent list always does
abbrev pub is_among : List Clock → End → Option (List Object) → Bool
is_among clocks e objects = option_map_or (list_any (is_object clocks e)) objects true

abbrev pub applies : Constraints → Launch → Capture → Exception → Bool
applies c launch capture x =
    is_among c.clocks (launch_end launch) x.from && is_among c.clocks (capture_end capture) x.to

abbrev pub removes : Kind → Effect → Bool
removes Setup FalseSetup = true
removes Setup FalseHold = false
removes Setup (CyclesSetup n) = false
removes Setup (CyclesHold n) = false
removes Hold FalseSetup = false
removes Hold FalseHold = true
removes Hold (CyclesSetup n) = false
removes Hold (CyclesHold n) = false

-- a false path removes the test, whatever multicycles say
abbrev pub is_tested : Constraints → Kind → Launch → Capture → Bool
is_tested c kind launch capture =
    not (list_any (λ x. removes kind x.effect && applies c launch capture x) c.exceptions)

abbrev pub cycles_in : Kind → Effect → Option ℕ
cycles_in Setup (CyclesSetup n) = Some n
cycles_in Setup FalseSetup = None
cycles_in Setup FalseHold = None
cycles_in Setup (CyclesHold n) = None
cycles_in Hold (CyclesHold n) = Some n
cycles_in Hold FalseSetup = None
cycles_in Hold FalseHold = None
cycles_in Hold (CyclesSetup n) = None

-- the last value of a list that has one
abbrev pub last_some : {X : Type 0} → (X → Option ℕ) → ℕ → List X → ℕ
last_some f n [] = n
last_some f n (x ∷ xs) = last_some f (unwrap_or (f x) n) xs

abbrev pub without_cycles : Kind → ℕ
without_cycles Setup = 1
without_cycles Hold = 0

-- the last multicycle that applies wins
abbrev pub cycles : Constraints → Kind → Launch → Capture → ℕ
cycles c kind launch capture =
    last_some (λ x. if applies c launch capture x then cycles_in kind x.effect else None) (without_cycles kind) c.exceptions

-- a setup multicycle of N adds N - 1 capture periods to both separations; a hold multicycle of M
-- takes M launch periods from the hold separation
abbrev pub with_cycles : Kind → ℤ → ℕ → ℕ → Clock → Clock → ℤ
with_cycles Setup sep setup hold launch capture = sep +ℤ (pos setup -ℤ pos 1) *ℤ capture.period.0
with_cycles Hold sep setup hold launch capture =
    sep +ℤ (pos setup -ℤ pos 1) *ℤ capture.period.0 -ℤ pos hold *ℤ launch.period.0
