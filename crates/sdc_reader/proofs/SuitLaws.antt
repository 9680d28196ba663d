-- The numbers of a command are of its own quantity.
use Rattle.std.proofs.Common.{◌≡◌, ℕ, Bool, true, false, List, [], ◌∷◌, ◌++◌, ◌&&◌, ◌||◌, not, cond, refl, subst}
use Rattle.std.specs.Prelude.{Option, Some, None, codes, ℤ}
use Rattle.std.proofs.lemmas.Bool.{cond_both}
use Rattle.timing_defs.specs.declared.codes.Code.{Code}
use Rattle.sta_text.specs.Tokens.{Tok, is_bad}
use Rattle.sdc_reader.specs.declared.commands.Command.{Command}
use Rattle.sdc_reader.specs.declared.commands.Command.TheVariants.{CreateClock, InputDelay, OutputDelay, InputTransition, Load, Uncertainty, FalsePath, Multicycle, Units, Derate}
use Rattle.sdc_reader.specs.declared.commands.Flag.{Flag}
use Rattle.sdc_reader.specs.declared.commands.Flag.TheVariants.{Setup, Hold, Start, End as At_end}
use Rattle.sdc_reader.specs.declared.commands.Quantity.{Quantity}
use Rattle.sdc_reader.specs.declared.commands.Quantity.TheVariants.{Period as period, WaveRise, WaveFall, Time as a_time, Cycles, Factor}
use Rattle.sdc_reader.specs.declared.commands.Role.{Role}
use Rattle.sdc_reader.specs.declared.commands.Getter.{Getter}
use Rattle.sdc_reader.specs.declared.commands.Getter.TheVariants.{Plain}
use Rattle.sdc_reader.specs.declared.commands.Choice.{Choice}
use Rattle.sdc_reader.specs.declared.commands.Choice.TheVariants.{Flag as Flagged, NoEffect, Name, Period, Waveform as Wave, Objects as Naming, TimeUnit as Time, CapacitanceUnit as Capacitance, PassedOver, LeftOut, Unknown}
use Rattle.sdc_reader.specs.declared.commands.Asked.{Asked}
use Rattle.sdc_reader.specs.declared.commands.Asked.TheVariants.{Number as a_number, Objects as some_objects, Nothing}
use Rattle.sdc_reader.specs.declared.commands.Line.{Line}
use Rattle.sdc_reader.specs.declared.commands.Listing.{Listing}
use Rattle.sdc_reader.specs.declared.events.Event.{Event}
use Rattle.sdc_reader.specs.declared.events.Event.TheVariants.{Begin, Number, Waveform, Named, Objects, TimeUnit, CapacitanceUnit}
use Rattle.sdc_reader.specs.Words.{is_word, is_mark, ends_command, is_text, is_variable, is_option}
use Rattle.sdc_reader.specs.Commands.{command_of, is_passed_over, is_left_out, is_left_out_getter, getter_of, choice_of, asked, asked_number, asked_objects, quantity_of, role_of, clash, with_flag, with_number, with_objects, unpaired, is_asked, is_single, is_derate, time_unit, capacitance_unit}
use Rattle.sdc_reader.specs.Grammar.{State, command, passed_over, variable, continued, name_value, period_value, time_value, capacitance_value, wave_open, wave_rise, wave_fall, wave_close, objects, listed, getting, got, closing, argument, Step, goes, refuses, unfit, left_out, end_step, known_step, command_step, variable_step, is_value, value_step, is_object, object_step, object, listing, named_step, plain_step, flag_step, option_step, argument_step, unit_step, getter_step, behind_list, listed_step, step, follow, at_end, events}

-- slews and loads are no negative numbers
abbrev pub is_sized : Command → Bool
is_sized InputTransition = true
is_sized Load = true
is_sized c = false

abbrev pub is_size : Quantity → Bool
is_size a_time = false
is_size Cycles = false
is_size Factor = false
is_size quantity = true

abbrev pub suits : Command → Quantity → Bool
suits c quantity = is_size quantity || not (is_sized c)

-- the numbers of each command suit it; the events go on with a command
abbrev pub Suiting : Command → List Event → Type 0
Suiting c [] = Unit {0}
Suiting c (Begin next at ∷ es) = Suiting next es
Suiting c (Number quantity word at ∷ es) = (suits c quantity ≡ true) × Suiting c es
Suiting c (e ∷ es) = Suiting c es

pub record IsSuiting (c : Command) (es : List Event) : Type 0 where
  pub held : Suiting c es

-- the command of a place
abbrev In : State → Command → Type 0
In command c = Unit {0}
In passed_over c = Unit {0}
In variable c = Unit {0}
In (continued l passes) c = l.command ≡ c
In (name_value l) c = l.command ≡ c
In (period_value l) c = l.command ≡ c
In (time_value l) c = l.command ≡ c
In (capacitance_value l) c = l.command ≡ c
In (wave_open l) c = l.command ≡ c
In (wave_rise l) c = l.command ≡ c
In (wave_fall l) c = l.command ≡ c
In (wave_close l) c = l.command ≡ c
In (objects l role) c = l.command ≡ c
In (listed x filled) c = x.line.command ≡ c
In (getting l role) c = l.command ≡ c
In (got l role getter) c = l.command ≡ c
In (closing l) c = l.command ≡ c

-- events of a step lead to a place of the same command
abbrev Leads : Command → List Event → State → Type 0
Leads c [] place = In place c
Leads c (Begin next at ∷ es) place = Leads next es place
Leads c (Number quantity word at ∷ es) place = (suits c quantity ≡ true) × Leads c es place
Leads c (e ∷ es) place = Leads c es place

abbrev Fits : Command → Step → Type 0
Fits c (goes es place) = Leads c es place
Fits c (refuses code at) = Unit {0}

pick : (c : Command) (b : Bool) (x y : Step) → Fits c x → Fits c y → Fits c (cond b x y)
pick c true x y h k = h
pick c false x y h k = k

flag_kept : (l : Line) (flag : Flag) (at : ℕ) (c : Command) → l.command ≡ c → (with_flag l flag at).command ≡ c
flag_kept l Setup at c h = h
flag_kept l Hold at c h = h
flag_kept l Start at c h = h
flag_kept l At_end at c h = h
flag_kept l flag at c h = h

-- the number that is asked suits the command
abbrev Asks : Command → Asked → Type 0
Asks c (a_number quantity) = suits c quantity ≡ true
Asks c (some_objects role) = Unit {0}
Asks c Nothing = Unit {0}

abbrev Owns : Command → Option Quantity → Type 0
Owns c None = Unit {0}
Owns c (Some quantity) = suits c quantity ≡ true

owns : (c : Command) → Owns c (quantity_of c)
owns CreateClock = tt
owns InputDelay = refl
owns OutputDelay = refl
owns InputTransition = refl
owns Load = refl
owns Uncertainty = refl
owns FalsePath = tt
owns Multicycle = refl
owns Units = tt
owns Derate = refl

asks_objects : (c : Command) (l : Line) (role : Option Role) → Asks c (asked_objects l role)
asks_objects c l None = tt
asks_objects c l (Some role) = cond_both l.objects Nothing (some_objects role) (Asks c) (λ _. tt) (λ _. tt)

asks_number : (c : Command) (l : Line) (quantity : Option Quantity) → Owns c quantity → Asks c (asked_number l quantity)
asks_number c l None h = asks_objects c l (role_of l.command)
asks_number c l (Some quantity) h =
    cond_both l.number (asked_objects l (role_of l.command)) (a_number quantity) (Asks c) (λ _. asks_objects c l (role_of l.command)) (λ _. h)

asks : (l : Line) (c : Command) → l.command ≡ c → Asks c (asked l)
asks l c h = asks_number c l (quantity_of l.command) (subst (λ d. Owns d (quantity_of l.command)) h (owns l.command))

end_fits : (at : Option ℕ) (c : Command) → Fits c (end_step at)
end_fits None c = tt
end_fits (Some at) c = tt

known_fits : (found : Option Command) (at : ℕ) (c : Command) → Fits c (known_step found at)
known_fits None at c = tt
known_fits (Some next) at c = refl

command_fits : (word : List ℕ) (at : ℕ) (c : Command) → Fits c (command_step word at)
command_fits word at c =
    pick c (is_variable word || is_left_out word) _ _ tt
    (pick c (is_text word (codes "set")) _ _ tt (pick c (is_passed_over word) _ _ tt (known_fits (command_of word) at c)))

variable_fits : (word : List ℕ) (at : ℕ) (c : Command) → Fits c (variable_step word at)
variable_fits word at c = pick c (is_variable word) _ _ tt (pick c (is_text word (codes "sdc_version")) _ _ tt tt)

value_fits : (t : Tok) (x : Step) (c : Command) → Fits c x → Fits c (value_step t x)
value_fits t x c h = pick c (is_value t) x _ h tt

object_fits : (getter : Getter) (t : Tok) (x : Step) (c : Command) → Fits c x → Fits c (object_step getter t x)
object_fits getter t x c h = pick c (is_object getter t.text) x _ h tt

named_fits : (l : Line) (role : Role) (t : Tok) (c : Command) → l.command ≡ c → Fits c (named_step l role t)
named_fits l role t c h =
    pick c (is_mark t (codes "{")) (goes (Objects role ∷ []) (listed (listing l role Plain false) false)) _ h
    (pick c (is_mark t (codes "[")) (goes (Objects role ∷ []) (getting l role)) _ h
    (value_fits t (object_step Plain t (goes (Objects role ∷ object role Plain t ∷ []) (argument l))) c
    (object_fits Plain t (goes (Objects role ∷ object role Plain t ∷ []) (argument l)) c h)))

plain_fits : (wanted : Asked) (l : Line) (t : Tok) (c : Command) → Asks c wanted → l.command ≡ c → Fits c (plain_step wanted l t)
plain_fits (a_number quantity) l t c a h =
    pick c (is_word t) (goes (Number quantity t.text t.start ∷ []) (argument (with_number l))) (unfit t.start) (a, h) tt
plain_fits (some_objects role) l t c a h = named_fits (with_objects l) role t c h
plain_fits Nothing l t c a h = pick c (is_derate l.command && is_word t) (left_out t.start) (unfit t.start) tt tt

flag_fits : (code : Option Code) (l : Line) (flag : Flag) (at : ℕ) (c : Command) → l.command ≡ c → Fits c (flag_step code l flag at)
flag_fits None l flag at c h = flag_kept l flag at c h
flag_fits (Some code) l flag at c h = tt

option_fits : (choice : Choice) (l : Line) (at : ℕ) (c : Command) → l.command ≡ c → Fits c (option_step choice l at)
option_fits (Flagged flag) l at c h = flag_fits (clash l flag) l flag at c h
option_fits NoEffect l at c h = h
option_fits Name l at c h = h
option_fits Period l at c h = h
option_fits Wave l at c h = h
option_fits (Naming role) l at c h = h
option_fits Time l at c h = h
option_fits Capacitance l at c h = h
option_fits PassedOver l at c h = h
option_fits LeftOut l at c h = tt
option_fits Unknown l at c h = tt

argument_fits : (l : Line) (t : Tok) (c : Command) → l.command ≡ c → Fits c (argument_step l t)
argument_fits l t c h =
    pick c (ends_command t) (end_step (unpaired l)) _ (end_fits (unpaired l) c)
    (pick c (is_word t && is_variable t.text) (left_out t.start) _ tt
    (pick c (is_word t && is_option t.text) (option_step (choice_of l.command t.text) l t.start) _ (option_fits (choice_of l.command t.text) l t.start c h)
    (pick c (is_derate l.command && is_mark t (codes "[")) (left_out t.start) (plain_step (asked l) l t) tt (plain_fits (asked l) l t c (asks l c h) h))))

time_fits : (ten : Option ℤ) (l : Line) (at : ℕ) (c : Command) → l.command ≡ c → Fits c (unit_step ten TimeUnit l at)
time_fits None l at c h = tt
time_fits (Some ten) l at c h = h

capacitance_fits : (ten : Option ℤ) (l : Line) (at : ℕ) (c : Command) → l.command ≡ c → Fits c (unit_step ten CapacitanceUnit l at)
capacitance_fits None l at c h = tt
capacitance_fits (Some ten) l at c h = h

getter_fits : (getter : Option Getter) (l : Line) (role : Role) (word : List ℕ) (at : ℕ) (c : Command) → l.command ≡ c → Fits c (getter_step getter l role word at)
getter_fits None l role word at c h = pick c (is_left_out_getter word) (left_out at) (unfit at) tt tt
getter_fits (Some getter) l role word at c h = pick c (is_asked role getter) (goes [] (got l role getter)) (unfit at) h tt

list_fits : (x : Listing) (c : Command) → x.line.command ≡ c → In (behind_list x) c
list_fits x c h = cond_both x.bracketed (closing x.line) (argument x.line) (λ place. In place c) (λ _. h) (λ _. h)

listed_fits : (x : Listing) (filled : Bool) (t : Tok) (c : Command) → x.line.command ≡ c → Fits c (listed_step x filled t)
listed_fits x filled t c h =
    pick c (is_mark t (codes "}")) _ _
    (pick c (is_single x.role && not filled) (unfit t.start) (goes [] (behind_list x)) tt (list_fits x c h))
    (pick c (is_word t && not (is_single x.role && filled)) (object_step x.getter t (goes (object x.role x.getter t ∷ []) (listed x true))) (unfit t.start)
    (object_fits x.getter t (goes (object x.role x.getter t ∷ []) (listed x true)) c h) tt)

step_fits : (place : State) (t : Tok) (c : Command) → In place c → Fits c (step place t)
step_fits command t c h =
    pick c (ends_command t) (goes [] command) _ tt (pick c (is_word t) (command_step t.text t.start) (unfit t.start) (command_fits t.text t.start c) tt)
step_fits passed_over t c h =
    pick c (ends_command t) (goes [] command) _ tt (pick c (is_bad t.sort) (unfit t.start) (goes [] passed_over) tt tt)
step_fits variable t c h = pick c (is_word t) (variable_step t.text t.start) (unfit t.start) (variable_fits t.text t.start c) tt
step_fits (continued l passes) t c h =
    pick c (passes && is_word t && not (is_option t.text)) (goes [] (argument l)) (argument_step l t) h (argument_fits l t c h)
step_fits (name_value l) t c h = value_fits t (goes (Named t.text ∷ []) (argument l)) c h
step_fits (period_value l) t c h = value_fits t (goes (Number period t.text t.start ∷ []) (argument l)) c (refl, h)
step_fits (time_value l) t c h = value_fits t (unit_step (time_unit t.text) TimeUnit l t.start) c (time_fits (time_unit t.text) l t.start c h)
step_fits (capacitance_value l) t c h =
    value_fits t (unit_step (capacitance_unit t.text) CapacitanceUnit l t.start) c (capacitance_fits (capacitance_unit t.text) l t.start c h)
step_fits (wave_open l) t c h =
    pick c (is_mark t (codes "{")) (goes (Waveform t.start ∷ []) (wave_rise l)) (value_step t (unfit t.start)) h (value_fits t (unfit t.start) c tt)
step_fits (wave_rise l) t c h = pick c (is_word t) (goes (Number WaveRise t.text t.start ∷ []) (wave_fall l)) (unfit t.start) (refl, h) tt
step_fits (wave_fall l) t c h = pick c (is_word t) (goes (Number WaveFall t.text t.start ∷ []) (wave_close l)) (unfit t.start) (refl, h) tt
step_fits (wave_close l) t c h = pick c (is_mark t (codes "}")) (goes [] (argument l)) (unfit t.start) h tt
step_fits (objects l role) t c h = named_fits l role t c h
step_fits (listed x filled) t c h = listed_fits x filled t c h
step_fits (getting l role) t c h =
    value_fits t (getter_step (getter_of t.text) l role t.text t.start) c (getter_fits (getter_of t.text) l role t.text t.start c h)
step_fits (got l role getter) t c h =
    pick c (is_mark t (codes "{")) (goes [] (listed (listing l role getter true) false)) _ h
    (value_fits t (object_step getter t (goes (object role getter t ∷ []) (closing l))) c (object_fits getter t (goes (object role getter t ∷ []) (closing l)) c h))
step_fits (closing l) t c h = pick c (is_mark t (codes "]")) (goes [] (argument l)) _ h tt

leads_on : (c : Command) (es : List Event) (place : State) (rest : List Event) → Leads c es place → ((d : Command) → In place d → IsSuiting d rest) → IsSuiting c (es ++ rest)
leads_on c [] place rest h k = k c h
leads_on c (Begin next at ∷ es) place rest h k = record { held = (leads_on next es place rest h k).held }
leads_on c (Number quantity word at ∷ es) place rest h k = record { held = (h.0, (leads_on c es place rest h.1 k).held) }
leads_on c (e ∷ es) place rest h k = record { held = (leads_on c es place rest h k).held }

follows : (c : Command) (x : Step) (rest : State → List Event) → Fits c x → ((place : State) (d : Command) → In place d → IsSuiting d (rest place)) → IsSuiting c (follow x rest)
follows c (goes es place) rest h k = leads_on c es place (rest place) h (k place)
follows c (refuses code at) rest h k = record { held = tt }

end_suits : (size : ℕ) (place : State) (c : Command) → In place c → IsSuiting c (at_end size place)
end_suits size command c h = record { held = tt }
end_suits size passed_over c h = record { held = tt }
end_suits size (continued l passes) c h = by_cases (unpaired l)
  where
    by_cases : (at : Option ℕ) → IsSuiting c (follow (end_step at) (λ next. []))
    by_cases None = record { held = tt }
    by_cases (Some at) = record { held = tt }
end_suits size place c h = record { held = tt }

suiting : (size : ℕ) (ts : List Tok) (place : State) (c : Command) → In place c → IsSuiting c (events size place ts)
unfolding events
suiting size [] place c h = end_suits size place c h
suiting size (t ∷ ts) place c h =
    follows c (step place t) (λ next. events size next ts) (step_fits place t c h) (λ next d k. suiting size ts next d k)

-- the numbers of a text suit their commands
pub text_suits : (size : ℕ) (ts : List Tok) (c : Command) → Suiting c (events size command ts)
text_suits size ts c = (suiting size ts command c tt).held
