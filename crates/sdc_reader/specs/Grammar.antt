-- The grammar of constraints (SDC 2.1): what a text writes, as a list of events in the order of the
-- text. A table says what each token leads to, at each place.
use Rattle.std.specs.Prelude.{ℕ, List, [], ◌∷◌, ◌++◌, Bool, true, false, ◌&&◌, ◌||◌, not, codes, length, if◌then◌else◌, Option, Some, None, ℤ}
use Rattle.timing_defs.specs.declared.codes.Code.{Code}
use Rattle.timing_defs.specs.declared.codes.Code.TheVariants.{SdcBadWord, SdcUnknownCommand, SdcLeftOut}
use Rattle.timing_defs.specs.declared.texts.Style.TheVariants.{Tcl}
use Rattle.sta_text.specs.Tokens.{Tok, is_bad, tokens_of}
use Rattle.sdc_reader.specs.declared.commands.Command.{Command}
use Rattle.sdc_reader.specs.declared.commands.Flag.{Flag}
use Rattle.sdc_reader.specs.declared.commands.Quantity.TheVariants.{Period as period, WaveRise, WaveFall}
use Rattle.sdc_reader.specs.declared.commands.Role.{Role}
use Rattle.sdc_reader.specs.declared.commands.Getter.{Getter}
use Rattle.sdc_reader.specs.declared.commands.Getter.TheVariants.{Plain}
use Rattle.sdc_reader.specs.declared.commands.Choice.{Choice}
use Rattle.sdc_reader.specs.declared.commands.Choice.TheVariants.{Flag as Flagged, NoEffect, Name, Period, Waveform as Wave, Objects as Naming, TimeUnit as Time, CapacitanceUnit as Capacitance, PassedOver, LeftOut, Unknown}
use Rattle.sdc_reader.specs.declared.commands.Asked.{Asked}
use Rattle.sdc_reader.specs.declared.commands.Asked.TheVariants.{Number as a_number, Objects as some_objects, Nothing}
use Rattle.sdc_reader.specs.declared.commands.Line.{Line}
use Rattle.sdc_reader.specs.declared.commands.Listing.{Listing}
use Rattle.sdc_reader.specs.declared.events.Event.{Event}
use Rattle.sdc_reader.specs.declared.events.Event.TheVariants.{Begin, Flag as Option_, Number, Waveform, Named, Objects, Object, TimeUnit, CapacitanceUnit, End, Fault}
use Rattle.sdc_reader.specs.Words.{is_word, is_mark, ends_command, is_text, is_variable, is_option, is_wild, is_pin}
use Rattle.sdc_reader.specs.Commands.{command_of, is_passed_over, is_left_out, is_left_out_getter, getter_of, choice_of, asked, blank, clash, with_flag, with_number, with_objects, unpaired, is_asked, is_single, is_pins, is_derate, time_unit, capacitance_unit}

-- what may stand next. A place carries what was read of its command: behind an argument, whether a word
-- may be passed over; in a list, whether a word stands in it
pub data State : Type 0 where
  command : State
  passed_over : State
  variable : State
  continued : Line → Bool → State
  name_value : Line → State
  period_value : Line → State
  time_value : Line → State
  capacitance_value : Line → State
  wave_open : Line → State
  wave_rise : Line → State
  wave_fall : Line → State
  wave_close : Line → State
  objects : Line → Role → State
  listed : Listing → Bool → State
  getting : Line → Role → State
  got : Line → Role → Getter → State
  closing : Line → State

-- behind an argument; behind an option that is passed over a word may stand, which is passed over too
abbrev pub argument : Line → State
argument l = continued l false

abbrev pub behind_option : Line → State
behind_option l = continued l true

-- what a token leads to: events and the next place, or the fault that ends the reading
pub data Step : Type 0 where
  goes : List Event → State → Step
  refuses : Code → ℕ → Step

-- a word that does not fit
abbrev pub unfit : ℕ → Step
unfit at = refuses SdcBadWord at

abbrev pub left_out : ℕ → Step
left_out at = refuses SdcLeftOut at

-- the command's end; a -start without its -hold does not fit
abbrev pub end_step : Option ℕ → Step
end_step None = goes (End ∷ []) command
end_step (Some at) = unfit at

-- a known command, or none
abbrev pub known_step : Option Command → ℕ → Step
known_step None at = refuses SdcUnknownCommand at
known_step (Some c) at = goes (Begin c at ∷ []) (argument (blank c))

-- the word of a command
abbrev pub command_step : List ℕ → ℕ → Step
command_step word at =
    (if is_variable word || is_left_out word then left_out at else
    (if is_text word (codes "set") then goes [] variable else
    (if is_passed_over word then goes [] passed_over else known_step (command_of word) at)))

-- `set sdc_version` is passed over
abbrev pub variable_step : List ℕ → ℕ → Step
variable_step word at =
    (if is_variable word then left_out at else
    (if is_text word (codes "sdc_version") then goes [] passed_over else unfit at))

-- a word where a value is asked, outside lists: no variable and no option
unfoldable pub is_value : Tok → Bool
is_value t = is_word t && not (is_variable t.text) && not (is_option t.text)

abbrev pub value_code : Tok → Code
value_code t = (if is_word t && is_variable t.text then SdcLeftOut else SdcBadWord)

abbrev pub value_step : Tok → Step → Step
value_step t step = (if is_value t then step else refuses (value_code t) t.start)

-- an object: no pattern; a pin has its mark
unfoldable pub is_object : Getter → List ℕ → Bool
is_object getter word = not (is_wild word) && (not (is_pins getter) || is_pin word)

abbrev pub object_code : List ℕ → Code
object_code word = (if is_wild word then SdcLeftOut else SdcBadWord)

abbrev pub object_step : Getter → Tok → Step → Step
object_step getter t step = (if is_object getter t.text then step else refuses (object_code t.text) t.start)

abbrev pub object : Role → Getter → Tok → Event
object role getter t = Object role getter t.text t.start

abbrev pub listing : Line → Role → Getter → Bool → Listing
listing l role getter bracketed = record { line = l; role = role; getter = getter; bracketed = bracketed }

-- objects without brackets: a word, a list, or what begins brackets
abbrev pub named_step : Line → Role → Tok → Step
named_step l role t =
    (if is_mark t (codes "{") then goes (Objects role ∷ []) (listed (listing l role Plain false) false) else
    (if is_mark t (codes "[") then goes (Objects role ∷ []) (getting l role) else
    value_step t (object_step Plain t (goes (Objects role ∷ object role Plain t ∷ []) (argument l)))))

-- where no plain word is asked: SDC has more in a derate
abbrev pub surplus_step : Line → Tok → Step
surplus_step l t = (if is_derate l.command && is_word t then left_out t.start else unfit t.start)

-- a plain word, a list or brackets
abbrev pub plain_step : Asked → Line → Tok → Step
plain_step (a_number quantity) l t =
    (if is_word t then goes (Number quantity t.text t.start ∷ []) (argument (with_number l)) else unfit t.start)
plain_step (some_objects role) l t = named_step (with_objects l) role t
plain_step Nothing l t = surplus_step l t

abbrev pub flag_step : Option Code → Line → Flag → ℕ → Step
flag_step None l flag at = goes (Option_ flag ∷ []) (argument (with_flag l flag at))
flag_step (Some code) l flag at = refuses code at

-- an option that has a value of its own
abbrev pub has_value : Choice → Bool
has_value Name = true
has_value Period = true
has_value Wave = true
has_value (Naming role) = true
has_value Time = true
has_value Capacitance = true
has_value choice = false

abbrev pub option_step : Choice → Line → ℕ → Step
option_step (Flagged flag) l at = flag_step (clash l flag) l flag at
option_step NoEffect l at = goes [] (argument l)
option_step Name l at = goes [] (name_value l)
option_step Period l at = goes [] (period_value l)
option_step Wave l at = goes [] (wave_open l)
option_step (Naming role) l at = goes [] (objects l role)
option_step Time l at = goes [] (time_value l)
option_step Capacitance l at = goes [] (capacitance_value l)
option_step PassedOver l at = goes [] (behind_option l)
option_step LeftOut l at = left_out at
option_step Unknown l at = unfit at

-- what a command goes on with: its end, an option, a plain word, a list or brackets
abbrev pub argument_step : Line → Tok → Step
argument_step l t =
    (if ends_command t then end_step (unpaired l) else
    (if is_word t && is_variable t.text then left_out t.start else
    (if is_word t && is_option t.text then option_step (choice_of l.command t.text) l t.start else
    (if is_derate l.command && is_mark t (codes "[") then left_out t.start else plain_step (asked l) l t))))

-- a unit that is known
abbrev pub unit_step : Option ℤ → (ℤ → Event) → Line → ℕ → Step
unit_step None event l at = unfit at
unit_step (Some ten) event l at = goes (event ten ∷ []) (argument l)

-- the list of a waveform begins
abbrev pub wave_step : Line → Tok → Step
wave_step l t = (if is_mark t (codes "{") then goes (Waveform t.start ∷ []) (wave_rise l) else value_step t (unfit t.start))

-- the command that gets objects
abbrev pub getter_step : Option Getter → Line → Role → List ℕ → ℕ → Step
getter_step None l role word at = (if is_left_out_getter word then left_out at else unfit at)
getter_step (Some getter) l role word at = (if is_asked role getter then goes [] (got l role getter) else unfit at)

-- where a list of objects ends
abbrev pub behind_list : Listing → State
behind_list x = (if x.bracketed then closing x.line else argument x.line)

-- a word of a list or its end; where exactly one word is asked, it stands before the end
abbrev pub listed_step : Listing → Bool → Tok → Step
listed_step x filled t =
    (if is_mark t (codes "}") then (if is_single x.role && not filled then unfit t.start else goes [] (behind_list x)) else
    (if is_word t && not (is_single x.role && filled)
    then object_step x.getter t (goes (object x.role x.getter t ∷ []) (listed x true)) else unfit t.start))

-- what a token leads to
abbrev pub step : State → Tok → Step
step command t =
    (if ends_command t then goes [] command else (if is_word t then command_step t.text t.start else unfit t.start))
step passed_over t =
    (if ends_command t then goes [] command else (if is_bad t.sort then unfit t.start else goes [] passed_over))
step variable t = (if is_word t then variable_step t.text t.start else unfit t.start)
step (continued l passes) t =
    (if passes && is_word t && not (is_option t.text) then goes [] (argument l) else argument_step l t)
step (name_value l) t = value_step t (goes (Named t.text ∷ []) (argument l))
step (period_value l) t = value_step t (goes (Number period t.text t.start ∷ []) (argument l))
step (time_value l) t = value_step t (unit_step (time_unit t.text) TimeUnit l t.start)
step (capacitance_value l) t = value_step t (unit_step (capacitance_unit t.text) CapacitanceUnit l t.start)
step (wave_open l) t = wave_step l t
step (wave_rise l) t = (if is_word t then goes (Number WaveRise t.text t.start ∷ []) (wave_fall l) else unfit t.start)
step (wave_fall l) t = (if is_word t then goes (Number WaveFall t.text t.start ∷ []) (wave_close l) else unfit t.start)
step (wave_close l) t = (if is_mark t (codes "}") then goes [] (argument l) else unfit t.start)
step (objects l role) t = named_step l role t
step (listed x filled) t = listed_step x filled t
step (getting l role) t = value_step t (getter_step (getter_of t.text) l role t.text t.start)
step (got l role getter) t =
    (if is_mark t (codes "{") then goes [] (listed (listing l role getter true) false) else
    value_step t (object_step getter t (goes (object role getter t ∷ []) (closing l))))
step (closing l) t = (if is_mark t (codes "]") then goes [] (argument l) else refuses (value_code t) t.start)

abbrev pub fault : Code → ℕ → Event
fault code at = Fault (record { code = code; at = at })

-- the events of a step, and those that follow from its place
abbrev pub follow : Step → (State → List Event) → List Event
follow (goes es place) rest = es ++ rest place
follow (refuses code at) rest = fault code at ∷ []

-- where the text ends: where a command may end it may
abbrev pub at_end : ℕ → State → List Event
at_end size command = []
at_end size passed_over = []
at_end size (continued l passes) = follow (end_step (unpaired l)) (λ next. [])
at_end size place = fault SdcBadWord size ∷ []

-- the events of a text of this size that tokens write from a place on
unfoldable pub events : ℕ → State → List Tok → List Event
events size place [] = at_end size place
events size place (t ∷ ts) = follow (step place t) (λ next. events size next ts)

-- the events of a whole text
abbrev pub events_of : List ℕ → List Event
events_of bytes = events (length bytes) command (tokens_of Tcl bytes)
