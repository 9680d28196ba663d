-- The faults of a text of constraints, each with its place. Of two clocks that clash the second is at
-- fault (own).
use Rattle.std.specs.Prelude.{ℕ, List, [], ◌∷◌, ◌++◌, length, Bool, true, false, ◌&&◌, ◌||◌, not, nat_lt, if◌then◌else◌, Option, Some, None, is_none}
use Rattle.std.specs.List.{list_any}
use Rattle.timing_defs.specs.declared.codes.Code.{Code}
use Rattle.timing_defs.specs.declared.codes.Code.TheVariants.{SdcBadWord, SdcLeftOut, SdcBadNumber, SdcUnknownClock, SdcTooManyClocks}
use Rattle.timing_defs.specs.declared.library.Units.{Units}
use Rattle.sta_text.specs.declared.faults.Wrong.{Wrong}
use Rattle.sdc_reader.specs.declared.commands.Command.{Command}
use Rattle.sdc_reader.specs.declared.commands.Command.TheVariants.{CreateClock, InputDelay, OutputDelay, InputTransition, Load, Uncertainty, FalsePath, Multicycle, Units as set_units, Derate}
use Rattle.sdc_reader.specs.declared.commands.Role.{Role}
use Rattle.sdc_reader.specs.declared.commands.Role.TheVariants.{Clocks, Clock as One_clock}
use Rattle.sdc_reader.specs.declared.draft.Figure.{Figure}
use Rattle.sdc_reader.specs.declared.draft.Figure.TheVariants.{Absent, Faulty, Value}
use Rattle.sdc_reader.specs.declared.draft.Draft.{Draft}
use Rattle.sdc_reader.specs.declared.interpreter.Interpreter.{Interpreter}
use Rattle.sdc_reader.specs.declared.events.Event.{Event}
use Rattle.sdc_reader.specs.declared.events.Event.TheVariants.{Number, Object, End, Fault}
use Rattle.sdc_reader.specs.Numbers.{number_of, is_absent, is_faulty, are_cycles, misfits}
use Rattle.sdc_reader.specs.Meaning.{clock_limit, clock_name, is_created, is_second, is_spread, after, start}

-- a fault where the test holds
abbrev pub fault_if : Bool → Code → ℕ → List Wrong
fault_if test code at = (if test then record { code = code; at = at } ∷ [] else [])

-- clocks that have to be created before
abbrev pub names_clock : Role → Bool
names_clock Clocks = true
names_clock One_clock = true
names_clock role = false

-- a required part of a command never came: a number, objects, a period or a clock's name
abbrev pub lacks_both : Draft → Bool
lacks_both d = is_absent d.number || is_none d.names

abbrev pub lacks : Command → Draft → Bool
lacks CreateClock d = is_absent d.period || is_none (clock_name d)
lacks InputDelay d = lacks_both d
lacks OutputDelay d = lacks_both d
lacks InputTransition d = lacks_both d
lacks Load d = lacks_both d
lacks Uncertainty d = lacks_both d
lacks FalsePath d = false
lacks Multicycle d = is_absent d.number
lacks set_units d = false
lacks Derate d = is_absent d.number

-- a second clock on a port or of a name, a clock on several ports, one more than there may be, and a
-- waveform that does not fit into the period
abbrev pub misfit_at : Option ℕ → Draft → List Wrong
misfit_at None d = []
misfit_at (Some at) d = fault_if (misfits d.period d.wave.rise d.wave.fall) SdcBadNumber at

abbrev pub clock_faults : Interpreter → Draft → List Wrong
clock_faults s d =
    fault_if (is_spread d || is_second s.clocks d) SdcLeftOut d.at
    ++ fault_if (not (nat_lt (length s.clocks) clock_limit)) SdcTooManyClocks d.at ++ misfit_at d.wave.at d

-- cycles out of range
abbrev pub is_beyond : Bool → Figure → Bool
is_beyond hold Absent = false
is_beyond hold Faulty = false
is_beyond hold (Value value) = not (are_cycles hold value)

-- the faults of a command that is complete: those of clocks, a delay without its clock, and cycles out
-- of range
abbrev pub complete_faults : Command → Interpreter → Draft → List Wrong
complete_faults CreateClock s d = clock_faults s d
complete_faults InputDelay s d = fault_if (is_none d.clock) SdcLeftOut d.at
complete_faults OutputDelay s d = fault_if (is_none d.clock) SdcLeftOut d.at
complete_faults Multicycle s d = fault_if (is_beyond d.flags.hold d.number) SdcBadNumber d.number_at
complete_faults command s d = []

-- the faults that an event shows, where `whole` says that the grammar accepts the whole text, which
-- has this size
abbrev pub found : ℕ → Bool → Interpreter → Event → List Wrong
found size whole s (Number quantity word at) = fault_if (is_faulty (number_of s.units quantity word)) SdcBadNumber at
found size whole s (Object role getter name at) =
    fault_if (names_clock role && not (is_created s.clocks name)) SdcUnknownClock at
found size whole s End =
    complete_faults s.draft.command s s.draft ++ fault_if (whole && lacks s.draft.command s.draft) SdcBadWord size
found size whole s (Fault w) = w ∷ []
found size whole s e = []

-- the faults of events, where this is set before
unfoldable pub faults : ℕ → Bool → Interpreter → List Event → List Wrong
faults size whole s [] = []
faults size whole s (e ∷ es) = found size whole s e ++ faults size whole (after s e) es

abbrev pub is_fault : Event → Bool
is_fault (Fault w) = true
is_fault e = false

-- the grammar accepts the whole text
abbrev pub is_accepted : List Event → Bool
is_accepted es = not (list_any is_fault es)

-- all faults of a text of this size, of which these are the events
abbrev pub faults_of : ℕ → Units → List Event → List Wrong
faults_of size units es = faults size (is_accepted es) (start units) es
