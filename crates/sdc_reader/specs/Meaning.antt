-- What a text of constraints means: its commands are carried out in order (SDC 2.1; Tcl). Of an option
-- that stands twice the last one counts.
use Rattle.std.specs.Prelude.{ℕ, ◌+◌, List, [], ◌∷◌, ◌++◌, map, length, Bool, true, false, ◌&&◌, ◌||◌, not, nat_lt, if◌then◌else◌, ℤ, pos, unsigned_abs, Option, Some, None, option_map}
use Rattle.std.specs.List.{list_any}
use Rattle.std.specs.Option.{option_map_or, option_or, unwrap_or}
use Rattle.std.specs.Str.{bytes_eq}
use Rattle.sta_units.specs.declared.units.Fs.{Fs}
use Rattle.timing_defs.specs.Names.{as_pin}
use Rattle.timing_defs.specs.declared.library.Units.{Units}
use Rattle.timing_defs.specs.declared.constraints.Clock.{Clock}
use Rattle.timing_defs.specs.declared.constraints.Object.{Object}
use Rattle.timing_defs.specs.declared.constraints.Object.TheVariants.{Clock as clock_object, Port as port_object, Pin as pin_object, Cell as cell_object, Any}
use Rattle.timing_defs.specs.declared.constraints.Effect.{Effect}
use Rattle.timing_defs.specs.declared.constraints.Effect.TheVariants.{FalseSetup, FalseHold, CyclesSetup, CyclesHold}
use Rattle.timing_defs.specs.declared.constraints.Exception.{Exception}
use Rattle.timing_defs.specs.declared.constraints.Derates.{Derates}
use Rattle.timing_defs.specs.Documents.{no_derates}
use Rattle.timing_defs.specs.declared.constraints.Constraints.{Constraints}
use Rattle.sta_text.specs.Names.{stands}
use Rattle.sdc_reader.specs.declared.commands.Command.{Command}
use Rattle.sdc_reader.specs.declared.commands.Command.TheVariants.{CreateClock, InputDelay, OutputDelay, InputTransition, Load, Uncertainty, FalsePath, Multicycle, Units as set_units, Derate}
use Rattle.sdc_reader.specs.declared.commands.Flag.{Flag}
use Rattle.sdc_reader.specs.declared.commands.Flag.TheVariants.{Min, Max, Rise, Fall, Setup, Hold, Start, End as At_end, Early, Late, Cells, Nets}
use Rattle.sdc_reader.specs.declared.commands.Quantity.{Quantity}
use Rattle.sdc_reader.specs.declared.commands.Quantity.TheVariants.{Period, WaveRise, WaveFall, Factor}
use Rattle.sdc_reader.specs.declared.commands.Role.{Role}
use Rattle.sdc_reader.specs.declared.commands.Role.TheVariants.{Ports, Clocks, Clock as One_clock, From, To}
use Rattle.sdc_reader.specs.declared.commands.Getter.{Getter}
use Rattle.sdc_reader.specs.declared.commands.Getter.TheVariants.{Plain, Ports as get_ports, Clocks as get_clocks, Pins as get_pins, Cells as get_cells}
use Rattle.sdc_reader.specs.declared.draft.Figure.{Figure}
use Rattle.sdc_reader.specs.declared.draft.Figure.TheVariants.{Absent, Faulty, Value}
use Rattle.sdc_reader.specs.declared.draft.Flags.{Flags}
use Rattle.sdc_reader.specs.declared.draft.Wave.{Wave}
use Rattle.sdc_reader.specs.declared.draft.Draft.{Draft}
use Rattle.sdc_reader.specs.declared.tables.Corner.{Corner}
use Rattle.sdc_reader.specs.declared.tables.Amount.{Amount}
use Rattle.sdc_reader.specs.declared.interpreter.Interpreter.{Interpreter}
use Rattle.sdc_reader.specs.declared.events.Event.{Event}
use Rattle.sdc_reader.specs.declared.events.Event.TheVariants.{Begin, Flag as Option_, Number, Waveform, Named, Objects, Object as An_object, TimeUnit, CapacitanceUnit, End, Fault}
use Rattle.sdc_reader.specs.Numbers.{number_of, fits, edges, are_cycles}
use Rattle.sdc_reader.specs.Tables.{meant, at_ports, loads_at, delay_of, slew_of, load_of}

-- at most eight clocks (own)
abbrev pub clock_limit : ℕ
clock_limit = 8

-- a command that has said nothing yet
abbrev pub no_flags : Flags
no_flags =
    record { early = false; late = false; rise = false; fall = false; setup = false; hold = false; cells = false; nets = false }

abbrev pub no_wave : Wave
no_wave = record { at = None; rise = Absent; fall = Absent }

abbrev pub empty_draft : Command → ℕ → Draft
empty_draft command at = record {
  command = command;
  at = at;
  flags = no_flags;
  number = Absent;
  number_at = 0;
  period = Absent;
  wave = no_wave;
  name = None;
  clock = None;
  names = None;
  from = None;
  to = None;
}

-- -min is early, -max is late
abbrev pub with_flag : Flag → Flags → Flags
with_flag Min flags = record flags { early = true }
with_flag Max flags = record flags { late = true }
with_flag Rise flags = record flags { rise = true }
with_flag Fall flags = record flags { fall = true }
with_flag Setup flags = record flags { setup = true }
with_flag Hold flags = record flags { hold = true }
with_flag Start flags = flags
with_flag At_end flags = flags
with_flag Early flags = record flags { early = true }
with_flag Late flags = record flags { late = true }
with_flag Cells flags = record flags { cells = true }
with_flag Nets flags = record flags { nets = true }

abbrev pub with_number : Quantity → Figure → ℕ → Draft → Draft
with_number Period number at d = record d { period = number }
with_number WaveRise number at d = record d { wave = record { at = d.wave.at; rise = number; fall = d.wave.fall } }
with_number WaveFall number at d = record d { wave = record { at = d.wave.at; rise = d.wave.rise; fall = number } }
with_number quantity number at d = record d { number = number; number_at = at }

-- a list of objects begins
abbrev pub with_objects : Role → Draft → Draft
with_objects Ports d = record d { names = Some [] }
with_objects Clocks d = record d { names = Some [] }
with_objects One_clock d = d
with_objects From d = record d { from = Some [] }
with_objects To d = record d { to = Some [] }

-- an object as it is written; the mark of a pin reads as a colon
abbrev pub object_of : Getter → List ℕ → Object
object_of Plain name = Any name
object_of get_ports name = port_object name
object_of get_clocks name = clock_object name
object_of get_pins name = pin_object (as_pin name)
object_of get_cells name = cell_object name

abbrev pub added : {X : Type 0} → Option (List X) → X → Option (List X)
added before x = Some (unwrap_or before [] ++ x ∷ [])

-- one more object
abbrev pub with_object : Role → Getter → List ℕ → Draft → Draft
with_object Ports getter name d = record d { names = added d.names name }
with_object Clocks getter name d = record d { names = added d.names name }
with_object One_clock getter name d = record d { clock = Some name }
with_object From getter name d = record d { from = added d.from (object_of getter name) }
with_object To getter name d = record d { to = added d.to (object_of getter name) }

-- the ports of a command, or the clocks of an uncertainty
abbrev pub named : Draft → List (List ℕ)
named d = unwrap_or d.names []

abbrev pub first : List (List ℕ) → Option (List ℕ)
first [] = None
first (name ∷ names) = Some name

-- a clock has its own name, or that of its port
abbrev pub clock_name : Draft → Option (List ℕ)
clock_name d = option_or d.name (first (named d))

abbrev pub is_clock_named : List ℕ → Clock → Bool
is_clock_named name clock = bytes_eq clock.name name

abbrev pub is_clock_at : List ℕ → Clock → Bool
is_clock_at port clock = option_map_or (bytes_eq port) clock.port false

-- a clock was created with this name, on this port
abbrev pub is_created : List Clock → List ℕ → Bool
is_created clocks name = list_any (is_clock_named name) clocks

abbrev pub is_second : List Clock → Draft → Bool
is_second clocks d =
    option_map_or (is_created clocks) (clock_name d) false
    || option_map_or (λ port. list_any (is_clock_at port) clocks) (first (named d)) false

-- a clock on several ports
abbrev pub is_spread : Draft → Bool
is_spread d = nat_lt 1 (length (named d))

abbrev pub fs : ℤ → Fs
fs value = record { 0 = value }

abbrev pub clock_with : List ℕ → Option (List ℕ) → ℤ → ℤ × ℤ → Clock
clock_with name port period times = record {
  name = name;
  port = port;
  period = fs period;
  rise = fs times.0;
  fall = fs times.1;
  unc_setup = fs (pos 0);
  unc_hold = fs (pos 0);
}

-- a clock whose period is missing is created all the same, with the least one, since what follows may name
-- it: its text has no constraints
abbrev pub clock_of_period : Draft → Option (List ℕ) → Figure → Option Clock
clock_of_period d None period = None
clock_of_period d (Some name) Absent = Some (clock_with name (first (named d)) (pos 2) (pos 0, pos 1))
clock_of_period d (Some name) Faulty = None
clock_of_period d (Some name) (Value period) = option_map (clock_with name (first (named d)) period) (edges period d.wave)

-- the clock that a command creates, where nothing is wrong with it
abbrev pub new_clock : List Clock → Draft → Option Clock
new_clock clocks d =
    (if is_spread d || is_second clocks d || not (nat_lt (length clocks) clock_limit) then None
    else clock_of_period d (clock_name d) d.period)

abbrev pub with_clock : List Clock → Option Clock → List Clock
with_clock clocks None = clocks
with_clock clocks (Some clock) = clocks ++ clock ∷ []

-- the place of a clock among those that were created, the first of which has this place
unfoldable pub place_from : ℕ → List ℕ → List Clock → Option ℕ
place_from place name [] = None
place_from place name (clock ∷ clocks) =
    (if is_clock_named name clock then Some place else place_from (place + 1) name clocks)

abbrev pub clock_place : List Clock → List ℕ → Option ℕ
clock_place clocks name = place_from 0 name clocks

abbrev pub amount_with : Figure → Option ℕ → Option Amount
amount_with (Value value) (Some clock) = Some (record { clock = clock; value = value })
amount_with number clock = None

-- the delay that a command sets with its clock, and the slew or load that one sets without
abbrev pub delay_amount : List Clock → Draft → Option Amount
delay_amount clocks d = amount_with d.number (option_map_or (clock_place clocks) d.clock None)

abbrev pub plain_amount : Draft → Option Amount
plain_amount d = amount_with d.number (Some 0)

abbrev pub set_ports : Draft → Option Amount → List (Corner × Amount) → List (Corner × Amount)
set_ports d None table = table
set_ports d (Some amount) table = at_ports d.flags amount (named d) table

abbrev pub set_loads : Draft → Option Amount → List (Corner × Amount) → List (Corner × Amount)
set_loads d None table = table
set_loads d (Some amount) table = loads_at d.flags amount (named d) table

-- an uncertainty of the tests that are meant
abbrev pub uncertain : Flags → ℤ → Clock → Clock
uncertain flags value clock = record clock {
  unc_setup = (if meant flags.setup flags.hold then fs value else clock.unc_setup);
  unc_hold = (if meant flags.hold flags.setup then fs value else clock.unc_hold);
}

abbrev pub uncertain_if : Draft → ℤ → Clock → Clock
uncertain_if d value clock = (if stands (named d) clock.name then uncertain d.flags value clock else clock)

abbrev pub uncertain_clocks : Draft → Figure → List Clock → List Clock
uncertain_clocks d Absent clocks = clocks
uncertain_clocks d Faulty clocks = clocks
uncertain_clocks d (Value value) clocks = map (uncertain_if d value) clocks

abbrev pub exception : Draft → Effect → Exception
exception d effect = record { from = d.from; to = d.to; effect = effect }

abbrev pub exception_if : Bool → Draft → Effect → List Exception
exception_if chosen d effect = (if chosen then exception d effect ∷ [] else [])

-- a false path of the tests that are meant
abbrev pub false_paths : Draft → List Exception
false_paths d =
    exception_if (meant d.flags.setup d.flags.hold) d FalseSetup ++ exception_if (meant d.flags.hold d.flags.setup) d FalseHold

-- the cycles of setup, or those of hold where -hold stands
abbrev pub cycles_effect : Bool → ℕ → Effect
cycles_effect hold cycles = (if hold then CyclesHold cycles else CyclesSetup cycles)

abbrev pub multicycles : Draft → Figure → List Exception
multicycles d Absent = []
multicycles d Faulty = []
multicycles d (Value value) =
    exception_if (are_cycles d.flags.hold value) d (cycles_effect d.flags.hold (unsigned_abs value))

-- a derate of the splits and arcs that are meant
abbrev pub factor_if : Bool → Bool → ℕ → ℕ → ℕ
factor_if split arcs factor before = (if split && arcs then factor else before)

abbrev pub derated : Flags → ℕ → Derates → Derates
derated flags factor before = record {
  early_cell = factor_if (meant flags.early flags.late) (meant flags.cells flags.nets) factor before.early_cell;
  late_cell = factor_if (meant flags.late flags.early) (meant flags.cells flags.nets) factor before.late_cell;
  early_net = factor_if (meant flags.early flags.late) (meant flags.nets flags.cells) factor before.early_net;
  late_net = factor_if (meant flags.late flags.early) (meant flags.nets flags.cells) factor before.late_net;
}

abbrev pub derates_with : Draft → Figure → Derates → Derates
derates_with d Absent before = before
derates_with d Faulty before = before
derates_with d (Value value) before = (if fits Factor value then derated d.flags (unsigned_abs value) before else before)

-- a command is carried out
abbrev pub ended : Command → Interpreter → Interpreter
ended CreateClock s = record s { clocks = with_clock s.clocks (new_clock s.clocks s.draft) }
ended InputDelay s = record s { inputs = set_ports s.draft (delay_amount s.clocks s.draft) s.inputs }
ended OutputDelay s = record s { outputs = set_ports s.draft (delay_amount s.clocks s.draft) s.outputs }
ended InputTransition s = record s { slews = set_ports s.draft (plain_amount s.draft) s.slews }
ended Load s = record s { loads = set_loads s.draft (plain_amount s.draft) s.loads }
ended Uncertainty s = record s { clocks = uncertain_clocks s.draft s.draft.number s.clocks }
ended FalsePath s = record s { exceptions = s.exceptions ++ false_paths s.draft }
ended Multicycle s = record s { exceptions = s.exceptions ++ multicycles s.draft s.draft.number }
ended set_units s = s
ended Derate s = record s { derates = derates_with s.draft s.draft.number s.derates }

-- what is set behind an event
abbrev pub after : Interpreter → Event → Interpreter
after s (Begin command at) = record s { draft = empty_draft command at }
after s (Option_ flag) = record s { draft = record s.draft { flags = with_flag flag s.draft.flags } }
after s (Number quantity word at) = record s { draft = with_number quantity (number_of s.units quantity word) at s.draft }
after s (Waveform at) = record s { draft = record s.draft { wave = record { at = Some at; rise = Absent; fall = Absent } } }
after s (Named name) = record s { draft = record s.draft { name = Some name } }
after s (Objects role) = record s { draft = with_objects role s.draft }
after s (An_object role getter name at) = record s { draft = with_object role getter name s.draft }
after s (TimeUnit ten) = record s { units = record { time = record { ten = ten }; cap = s.units.cap } }
after s (CapacitanceUnit ten) = record s { units = record { time = s.units.time; cap = record { ten = ten } } }
after s End = ended s.draft.command s
after s (Fault w) = s

-- what is set behind all events
unfoldable pub last : Interpreter → List Event → Interpreter
last s [] = s
last s (e ∷ es) = last (after s e) es

-- before the first command nothing is set
abbrev pub start : Units → Interpreter
start units = record {
  units = units;
  draft = empty_draft set_units 0;
  clocks = [];
  inputs = [];
  outputs = [];
  slews = [];
  loads = [];
  exceptions = [];
  derates = no_derates;
}

-- the constraints that are set
abbrev pub constraints : Interpreter → Constraints
constraints s = record {
  clocks = s.clocks;
  inputs = map delay_of s.inputs;
  outputs = map delay_of s.outputs;
  slews = map slew_of s.slews;
  loads = map load_of s.loads;
  exceptions = s.exceptions;
  derates = s.derates;
}

-- the constraints that the events of a text write, with numbers in these units up to its own
abbrev pub constraints_of : Units → List Event → Constraints
constraints_of units es = constraints (last (start units) es)
