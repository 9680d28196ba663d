-- Values at ports. A value is for a split and a transition; -min is early and -max late, and where
-- neither of two such options stands both hold (SDC 2.1). The last value written counts.
use Rattle.std.specs.Prelude.{ℕ, List, [], ◌∷◌, Bool, true, false, ◌&&◌, ◌||◌, not, if◌then◌else◌}
use Rattle.std.specs.Bool.{beq}
use Rattle.std.specs.Str.{bytes_eq}
use Rattle.timing_defs.specs.declared.kinds.Split.{Split}
use Rattle.timing_defs.specs.declared.kinds.Split.TheVariants.{Early, Late}
use Rattle.timing_defs.specs.declared.kinds.Tran.{Tran}
use Rattle.timing_defs.specs.declared.kinds.Tran.TheVariants.{Rise, Fall}
use Rattle.timing_defs.specs.declared.constraints.PortDelay.{PortDelay}
use Rattle.timing_defs.specs.declared.constraints.PortSlew.{PortSlew}
use Rattle.timing_defs.specs.declared.constraints.PortLoad.{PortLoad}
use Rattle.sdc_reader.specs.declared.tables.Corner.{Corner}
use Rattle.sdc_reader.specs.declared.tables.Amount.{Amount}
use Rattle.sdc_reader.specs.declared.draft.Flags.{Flags}

abbrev pub same_corner : Corner → Corner → Bool
same_corner a b = bytes_eq a.port b.port && (beq a.late b.late && beq a.fall b.fall)

-- a table with the value of a corner: in the place of the value before, or last
abbrev pub written : Corner → Amount → List (Corner × Amount) → List (Corner × Amount)
written corner amount [] = (corner, amount) ∷ []
written corner amount (entry ∷ entries) =
    (if same_corner corner entry.0 then (entry.0, amount) ∷ entries else entry ∷ written corner amount entries)

-- of two options the first is meant: it stands, or neither does
abbrev pub meant : Bool → Bool → Bool
meant first second = first || not second

abbrev pub corner : List ℕ → Bool → Bool → Corner
corner port late fall = record { port = port; late = late; fall = fall }

-- the value is written where it is meant
abbrev pub written_if : Bool → Corner → Amount → List (Corner × Amount) → List (Corner × Amount)
written_if chosen place amount table = (if chosen then written place amount table else table)

-- a value of a port at one split, for the transitions that are meant
abbrev pub at_split : Flags → Bool → Amount → List ℕ → List (Corner × Amount) → List (Corner × Amount)
at_split flags late amount port table =
    written_if (meant flags.fall flags.rise) (corner port late true) amount
    (written_if (meant flags.rise flags.fall) (corner port late false) amount table)

abbrev pub at_split_if : Bool → Flags → Bool → Amount → List ℕ → List (Corner × Amount) → List (Corner × Amount)
at_split_if chosen flags late amount port table = (if chosen then at_split flags late amount port table else table)

-- a value of a port, for the splits and transitions that are meant
unfoldable pub at_port : Flags → Amount → List ℕ → List (Corner × Amount) → List (Corner × Amount)
at_port flags amount port table =
    at_split_if (meant flags.late flags.early) flags true amount port
    (at_split_if (meant flags.early flags.late) flags false amount port table)

-- a load of a port
unfoldable pub load_at : Flags → Amount → List ℕ → List (Corner × Amount) → List (Corner × Amount)
load_at flags amount port table =
    written_if (meant flags.late flags.early) (corner port true false) amount
    (written_if (meant flags.early flags.late) (corner port false false) amount table)

-- a value of each of some ports
unfoldable pub at_ports : Flags → Amount → List (List ℕ) → List (Corner × Amount) → List (Corner × Amount)
at_ports flags amount [] table = table
at_ports flags amount (port ∷ ports) table = at_ports flags amount ports (at_port flags amount port table)

unfoldable pub loads_at : Flags → Amount → List (List ℕ) → List (Corner × Amount) → List (Corner × Amount)
loads_at flags amount [] table = table
loads_at flags amount (port ∷ ports) table = loads_at flags amount ports (load_at flags amount port table)

abbrev pub split_of : Corner → Split
split_of place = (if place.late then Late else Early)

abbrev pub tran_of : Corner → Tran
tran_of place = (if place.fall then Fall else Rise)

abbrev pub delay_of : Corner × Amount → PortDelay
delay_of entry =
    record { port = entry.0.port; split = split_of entry.0; tran = tran_of entry.0; clock = entry.1.clock; delay = record { 0 = entry.1.value } }

abbrev pub slew_of : Corner × Amount → PortSlew
slew_of entry =
    record { port = entry.0.port; split = split_of entry.0; tran = tran_of entry.0; slew = record { 0 = entry.1.value } }

abbrev pub load_of : Corner × Amount → PortLoad
load_of entry = record { port = entry.0.port; split = split_of entry.0; load = record { 0 = entry.1.value } }
