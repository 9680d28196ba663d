-- Why words give no value: they are of another form, or a number word is none or out of its range.
use Rattle.std.specs.Prelude.{◌≡◌, ℕ, Option, Some, None, Result, Ok, Err, MatchResult}
use Rattle.eco_journal.specs.declared.stops.Stop.{Stop}
use Rattle.eco_journal.specs.declared.stops.Stop.TheVariants.{Memory, Unfit, Flawed}

-- a call stopped as the definition says; nothing is said for want of memory
abbrev pub Stops : {X : Type 0} → Stop → Result X Stop → Type 0
Stops Memory defined = Unit {0}
Stops Unfit defined = defined ≡ Err Unfit
Stops (Flawed at) defined = defined ≡ Err (Flawed at)

-- a call gave what the definition says
abbrev pub Gives : {X : Type 0} → Result X Stop → Result X Stop → Type 0
Gives result defined = MatchResult result (λ x. defined ≡ Ok x) (λ stop. Stops stop defined)

-- a value made from another
abbrev pub then_make : {X Y : Type 0} → (X → Y) → Result X Stop → Result Y Stop
then_make make (Ok x) = Ok (make x)
then_make make (Err stop) = Err stop

-- the number of a number word at a place
abbrev pub or_flawed : ℕ → Option ℕ → Result ℕ Stop
or_flawed at None = Err (Flawed at)
or_flawed at (Some n) = Ok n

-- a call stopped where its words are of another form, so that P holds, or for want of memory
abbrev pub Unfits : Stop → Type 0 → Type 0
Unfits Memory P = Unit {0}
Unfits Unfit P = P
Unfits (Flawed at) P = ⊥
