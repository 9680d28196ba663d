-- There are never more than eight clocks.
use Rattle.std.proofs.Common.{◌≡◌, ◌≤◌, ◌<◌, Bool, true, false, not, ◌||◌, nat_lt, if◌then◌else◌, List, [], ◌∷◌, length, Option, Some, None, refl, inl, inr, arith}
use Rattle.std.proofs.lemmas.Bool.{cases_Bool}
use Rattle.std.proofs.lemmas.List.{length-append, length-map}
use Rattle.timing_defs.specs.declared.constraints.Clock.{Clock}
use Rattle.sdc_reader.specs.declared.commands.Command.{Command}
use Rattle.sdc_reader.specs.declared.commands.Command.TheVariants.{CreateClock, Uncertainty}
use Rattle.sdc_reader.specs.declared.draft.Figure.{Figure}
use Rattle.sdc_reader.specs.declared.draft.Figure.TheVariants.{Absent, Faulty, Value}
use Rattle.sdc_reader.specs.declared.draft.Draft.{Draft}
use Rattle.sdc_reader.specs.declared.interpreter.Interpreter.{Interpreter}
use Rattle.sdc_reader.specs.declared.events.Event.{Event}
use Rattle.sdc_reader.specs.declared.events.Event.TheVariants.{End}
use Rattle.sdc_reader.specs.Meaning.{clock_limit, with_clock, is_spread, is_second, clock_of_period, clock_name, uncertain_if, uncertain_clocks, ended, after}

with_limit : (clocks : List Clock) (a b : Bool) (found : Option Clock) → length clocks ≤ 8
    → length (with_clock clocks (if a || b || not (nat_lt (length clocks) 8) then None else found)) ≤ 8
with_limit clocks true b found h = h
with_limit clocks false true found h = h
with_limit clocks false false found h = elim (cases_Bool (nat_lt (length clocks) 8)) [
  | inl less ↦ rw less (room clocks found (grind arith))
  | inr more ↦ rw more h
]
  where
    room : (clocks : List Clock) (found : Option Clock) → length clocks < 8 → length (with_clock clocks found) ≤ 8
    room clocks None less = omega arith
    room clocks (Some clock) less = omega (arith, length-append clocks (clock ∷ []))

uncertain_length : (d : Draft) (number : Figure) (clocks : List Clock) → length (uncertain_clocks d number clocks) ≡ length clocks
uncertain_length d Absent clocks = refl
uncertain_length d Faulty clocks = refl
uncertain_length d (Value value) clocks = length-map clocks (uncertain_if d value)

ended_limit : (command : Command) (s : Interpreter) → length s.clocks ≤ 8 → length (ended command s).clocks ≤ 8
ended_limit CreateClock s h =
    with_limit s.clocks (is_spread s.draft) (is_second s.clocks s.draft) (clock_of_period s.draft (clock_name s.draft) s.draft.period) h
ended_limit Uncertainty s h = rw (uncertain_length s.draft s.draft.number s.clocks) h
ended_limit command s h = h

pub after_limit : (s : Interpreter) (e : Event) → length s.clocks ≤ clock_limit → length (after s e).clocks ≤ clock_limit
after_limit s End h = ended_limit s.draft.command s h
after_limit s e h = h
