-- The commands that are read, and their options (SDC 2.1).
use Rattle.std.specs.Prelude.{ℕ, List, Bool, true, false, ◌&&◌, ◌||◌, codes, if◌then◌else◌, Option, Some, None, is_some, is_none, ℤ, pos}
use Rattle.timing_defs.specs.declared.codes.Code.{Code}
use Rattle.timing_defs.specs.declared.codes.Code.TheVariants.{SdcBadWord, SdcLeftOut}
use Rattle.sdc_reader.specs.declared.commands.Command.{Command}
use Rattle.sdc_reader.specs.declared.commands.Command.TheVariants.{CreateClock, InputDelay, OutputDelay, InputTransition, Load, Uncertainty, FalsePath, Multicycle, Units, Derate}
use Rattle.sdc_reader.specs.declared.commands.Flag.{Flag}
use Rattle.sdc_reader.specs.declared.commands.Flag.TheVariants.{Min, Max, Rise, Fall, Setup, Hold, Start, End, Early, Late, Cells, Nets}
use Rattle.sdc_reader.specs.declared.commands.Quantity.{Quantity}
use Rattle.sdc_reader.specs.declared.commands.Quantity.TheVariants.{Time, Slew, Load as Capacitance, Cycles, Factor}
use Rattle.sdc_reader.specs.declared.commands.Role.{Role}
use Rattle.sdc_reader.specs.declared.commands.Role.TheVariants.{Ports, Clocks, Clock, From, To}
use Rattle.sdc_reader.specs.declared.commands.Getter.{Getter}
use Rattle.sdc_reader.specs.declared.commands.Getter.TheVariants.{Ports as get_ports, Clocks as get_clocks, Pins as get_pins, Cells as get_cells}
use Rattle.sdc_reader.specs.declared.commands.Choice.{Choice}
use Rattle.sdc_reader.specs.declared.commands.Choice.TheVariants.{Flag as Flagged, NoEffect, Name, Period, Waveform, Objects, TimeUnit, CapacitanceUnit, PassedOver, LeftOut, Unknown}
use Rattle.sdc_reader.specs.declared.commands.Asked.{Asked}
use Rattle.sdc_reader.specs.declared.commands.Asked.TheVariants.{Number, Objects as Named, Nothing}
use Rattle.sdc_reader.specs.declared.commands.Line.{Line}
use Rattle.sdc_reader.specs.Words.{is_text, gets_objects}

-- the commands of ports
abbrev pub port_command : List ℕ → Option Command
port_command word =
    (if is_text word (codes "set_input_delay") then Some InputDelay else
    (if is_text word (codes "set_output_delay") then Some OutputDelay else
    (if is_text word (codes "set_input_transition") then Some InputTransition else
    (if is_text word (codes "set_load") then Some Load else None))))

-- the commands that are read
unfoldable pub command_of : List ℕ → Option Command
command_of word =
    (if is_text word (codes "create_clock") then Some CreateClock else
    (if is_text word (codes "set_clock_uncertainty") then Some Uncertainty else
    (if is_text word (codes "set_false_path") then Some FalsePath else
    (if is_text word (codes "set_multicycle_path") then Some Multicycle else
    (if is_text word (codes "set_units") then Some Units else
    (if is_text word (codes "set_timing_derate") then Some Derate else port_command word))))))

abbrev pub is_passed_over_limit : List ℕ → Bool
is_passed_over_limit word =
    is_text word (codes "set_max_area") || is_text word (codes "set_max_fanout")
    || is_text word (codes "set_max_transition") || is_text word (codes "set_max_capacitance")

-- the commands that are passed over, beside `set sdc_version`
unfoldable pub is_passed_over : List ℕ → Bool
is_passed_over word =
    is_passed_over_limit word || is_text word (codes "current_design") || is_text word (codes "set_propagated_clock")
    || is_text word (codes "set_operating_conditions") || is_text word (codes "set_wire_load_mode")
    || is_text word (codes "set_wire_load_model") || is_text word (codes "group_path")

abbrev pub is_left_out_limit : List ℕ → Bool
is_left_out_limit word =
    is_text word (codes "set_max_delay") || is_text word (codes "set_min_delay")
    || is_text word (codes "set_driving_cell") || is_text word (codes "set_disable_timing")

-- how the objects behind a word in brackets are got
unfoldable pub getter_of : List ℕ → Option Getter
getter_of word =
    (if is_text word (codes "get_ports") then Some get_ports else
    (if is_text word (codes "get_clocks") then Some get_clocks else
    (if is_text word (codes "get_pins") then Some get_pins else
    (if is_text word (codes "get_cells") then Some get_cells else None))))

-- a command that gets objects in a way that is left out
abbrev pub is_left_out_getter : List ℕ → Bool
is_left_out_getter word = gets_objects word && is_none (getter_of word)

-- the commands of SDC that are left out
unfoldable pub is_left_out : List ℕ → Bool
is_left_out word =
    is_left_out_limit word || is_text word (codes "create_generated_clock") || is_text word (codes "set_clock_latency")
    || is_text word (codes "set_case_analysis") || is_text word (codes "set_clock_transition") || is_left_out_getter word

-- the options of SDC that are left out in every command
abbrev pub is_left_out_option : List ℕ → Bool
is_left_out_option word =
    is_text word (codes "-through") || is_text word (codes "-clock_fall") || is_text word (codes "-add_delay")

-- the options of an uncertainty between two clocks
abbrev pub is_inter_clock : List ℕ → Bool
is_inter_clock word =
    is_text word (codes "-from") || is_text word (codes "-to") || is_text word (codes "-rise_from")
    || is_text word (codes "-fall_from") || is_text word (codes "-rise_to") || is_text word (codes "-fall_to")

-- an option that the command does not have
abbrev pub other_choice : List ℕ → Choice
other_choice word = (if is_left_out_option word then LeftOut else Unknown)

abbrev pub clock_choice : List ℕ → Choice
clock_choice word =
    (if is_text word (codes "-period") then Period else
    (if is_text word (codes "-name") then Name else
    (if is_text word (codes "-waveform") then Waveform else other_choice word)))

-- which bound of an arrival: min is early, max is late
abbrev pub bound_choice : List ℕ → Choice → Choice
bound_choice word others =
    (if is_text word (codes "-min") then Flagged Min else
    (if is_text word (codes "-max") then Flagged Max else others))

abbrev pub delay_choice : List ℕ → Choice
delay_choice word =
    (if is_text word (codes "-clock") then Objects Clock else
    (if is_text word (codes "-rise") then Flagged Rise else
    (if is_text word (codes "-fall") then Flagged Fall else bound_choice word (other_choice word))))

abbrev pub load_choice : List ℕ → Choice
load_choice word =
    (if is_text word (codes "-pin_load") then NoEffect else
    (if is_text word (codes "-rise") then NoEffect else
    (if is_text word (codes "-fall") then NoEffect else bound_choice word (other_choice word))))

-- which kind of test
abbrev pub kind_choice : List ℕ → Choice → Choice
kind_choice word others =
    (if is_text word (codes "-setup") then Flagged Setup else
    (if is_text word (codes "-hold") then Flagged Hold else others))

abbrev pub uncertainty_choice : List ℕ → Choice
uncertainty_choice word = kind_choice word (if is_inter_clock word then LeftOut else other_choice word)

-- which paths
abbrev pub path_choice : List ℕ → Choice → Choice
path_choice word others =
    (if is_text word (codes "-from") then Objects From else
    (if is_text word (codes "-to") then Objects To else others))

abbrev pub false_path_choice : List ℕ → Choice
false_path_choice word = kind_choice word (path_choice word (other_choice word))

-- the clock whose cycles count
abbrev pub cycle_choice : List ℕ → Choice
cycle_choice word =
    (if is_text word (codes "-start") then Flagged Start else
    (if is_text word (codes "-end") then Flagged End else other_choice word))

abbrev pub multicycle_choice : List ℕ → Choice
multicycle_choice word = kind_choice word (path_choice word (cycle_choice word))

abbrev pub unit_choice : List ℕ → Choice
unit_choice word =
    (if is_text word (codes "-time") then TimeUnit else
    (if is_text word (codes "-capacitance") then CapacitanceUnit else
    (if is_left_out_option word then LeftOut else PassedOver)))

abbrev pub derate_choice : List ℕ → Choice
derate_choice word =
    (if is_text word (codes "-early") then Flagged Early else
    (if is_text word (codes "-late") then Flagged Late else
    (if is_text word (codes "-cell_delay") then Flagged Cells else
    (if is_text word (codes "-net_delay") then Flagged Nets else LeftOut))))

-- what an option of a command means
abbrev pub choice_of : Command → List ℕ → Choice
choice_of CreateClock word = clock_choice word
choice_of InputDelay word = delay_choice word
choice_of OutputDelay word = delay_choice word
choice_of InputTransition word = delay_choice word
choice_of Load word = load_choice word
choice_of Uncertainty word = uncertainty_choice word
choice_of FalsePath word = false_path_choice word
choice_of Multicycle word = multicycle_choice word
choice_of Units word = unit_choice word
choice_of Derate word = derate_choice word

-- the number that a command has
abbrev pub quantity_of : Command → Option Quantity
quantity_of CreateClock = None
quantity_of InputDelay = Some Time
quantity_of OutputDelay = Some Time
quantity_of InputTransition = Some Slew
quantity_of Load = Some Capacitance
quantity_of Uncertainty = Some Time
quantity_of FalsePath = None
quantity_of Multicycle = Some Cycles
quantity_of Units = None
quantity_of Derate = Some Factor

-- the objects that a command has beside those of its options
abbrev pub role_of : Command → Option Role
role_of CreateClock = Some Ports
role_of InputDelay = Some Ports
role_of OutputDelay = Some Ports
role_of InputTransition = Some Ports
role_of Load = Some Ports
role_of Uncertainty = Some Clocks
role_of FalsePath = None
role_of Multicycle = None
role_of Units = None
role_of Derate = None

abbrev pub is_derate : Command → Bool
is_derate Derate = true
is_derate command = false

abbrev pub is_multicycle : Command → Bool
is_multicycle Multicycle = true
is_multicycle command = false

-- a command of which nothing is read yet
abbrev pub blank : Command → Line
blank command =
    record { command = command; number = false; objects = false; setup = false; hold = false; end = false; start = None }

-- the first plain word is the number, the second the objects
abbrev pub asked_objects : Line → Option Role → Asked
asked_objects l None = Nothing
asked_objects l (Some role) = (if l.objects then Nothing else Named role)

abbrev pub asked_number : Line → Option Quantity → Asked
asked_number l None = asked_objects l (role_of l.command)
asked_number l (Some quantity) = (if l.number then asked_objects l (role_of l.command) else Number quantity)

abbrev pub asked : Line → Asked
asked l = asked_number l (quantity_of l.command)

-- an option of a multicycle that does not go with the options before it: setup and hold exclude each
-- other, and cycles are counted at the end for setup and at the start for hold
abbrev pub clash_of : Line → Flag → Option Code
clash_of l Setup = (if l.hold then Some SdcLeftOut else (if is_some l.start then Some SdcBadWord else None))
clash_of l Hold = (if l.setup then Some SdcLeftOut else (if l.end then Some SdcBadWord else None))
clash_of l Start = (if l.setup then Some SdcBadWord else None)
clash_of l End = (if l.hold then Some SdcBadWord else None)
clash_of l flag = None

abbrev pub clash : Line → Flag → Option Code
clash l flag = (if is_multicycle l.command then clash_of l flag else None)

-- the place where -start stands first
abbrev pub first_start : Option ℕ → ℕ → Option ℕ
first_start None at = Some at
first_start (Some before) at = Some before

-- the command with an option at this place
abbrev pub with_flag : Line → Flag → ℕ → Line
with_flag l Setup at = record l { setup = true }
with_flag l Hold at = record l { hold = true }
with_flag l Start at = record l { start = first_start l.start at }
with_flag l End at = record l { end = true }
with_flag l flag at = l

-- the command with its number, with its objects
abbrev pub with_number : Line → Line
with_number l = record l { number = true }

abbrev pub with_objects : Line → Line
with_objects l = record l { objects = true }

-- where -start stands without -hold
abbrev pub unpaired : Line → Option ℕ
unpaired l = (if l.hold then None else l.start)

-- these objects may stand in this role
abbrev pub is_asked : Role → Getter → Bool
is_asked Ports get_ports = true
is_asked Ports getter = false
is_asked Clocks get_clocks = true
is_asked Clocks getter = false
is_asked Clock get_clocks = true
is_asked Clock getter = false
is_asked From getter = true
is_asked To getter = true

-- exactly one object
abbrev pub is_single : Role → Bool
is_single Clock = true
is_single role = false

abbrev pub is_pins : Getter → Bool
is_pins get_pins = true
is_pins getter = false

-- the units of time and capacitance, as powers of ten fs and aF; a factor of one may stand before
-- the unit alone
unfoldable pub time_unit : List ℕ → Option ℤ
time_unit word =
    (if is_text word (codes "ps") || is_text word (codes "1ps") || is_text word (codes "1.0ps") then Some (pos 3) else
    (if is_text word (codes "10ps") then Some (pos 4) else
    (if is_text word (codes "100ps") then Some (pos 5) else
    (if is_text word (codes "ns") || is_text word (codes "1ns") || is_text word (codes "1.0ns") then Some (pos 6) else None))))

unfoldable pub capacitance_unit : List ℕ → Option ℤ
capacitance_unit word =
    (if is_text word (codes "fF") || is_text word (codes "1fF") || is_text word (codes "1.0fF") then Some (pos 3) else
    (if is_text word (codes "pF") || is_text word (codes "1pF") || is_text word (codes "1.0pF") then Some (pos 6) else None))
