-- What a function of the grammar reads: how the tokens that are left and the events so far go on.
use Rattle.std.specs.Prelude.{◌≡◌, ℕ, ◌≤◌, List, ◌++◌, Bool, true, length, if◌then◌else◌, Result, MatchResult, Option, Some, None}
use Rattle.sta_text.specs.Tokens.{Tok}
use Rattle.sdc_reader.specs.declared.commands.More.{More}
use Rattle.sdc_reader.specs.declared.commands.Listing.{Listing}
use Rattle.sdc_reader.specs.declared.events.Event.{Event}
use Rattle.sdc_reader.specs.declared.cursor.Stop.{Stop}
use Rattle.sdc_reader.specs.declared.cursor.Stop.TheVariants.{Refused}
use Rattle.sdc_reader.specs.Grammar.{State, Step, events, follow, behind_list, command, passed_over, continued, listed}

-- the events so far, and those that the tokens write from a place on
abbrev pub whole : ℕ → State → List Tok → List Event → List Event
whole size place tokens read = read ++ events size place tokens

-- the same from what a token leads to
abbrev pub stepped : ℕ → Step → List Tok → List Event → List Event
stepped size step tokens read = read ++ follow step (λ next. events size next tokens)

-- the text was read from one place to another; where it is refused its events end with the fault
abbrev pub Reads : {X : Type 0} → Result X Stop → ℕ → State → (X → State) → List Tok → List Tok → List Event → List Event → Type 0
Reads result size from to tokens tokens' read read' =
    MatchResult result
    (λ x. (whole size (to x) tokens' read' ≡ whole size from tokens read) × (length tokens' ≤ length tokens))
    (λ stop. stop ≡ Refused → read' ≡ whole size from tokens read)

-- a token was taken, which leads to this step
abbrev pub Takes : {X : Type 0} → Result X Stop → ℕ → Step → (X → State) → List Tok → List Tok → List Event → List Event → Type 0
Takes result size step to tokens tokens' read read' =
    MatchResult result
    (λ x. (whole size (to x) tokens' read' ≡ stepped size step tokens read) × (length tokens' ≤ length tokens))
    (λ stop. stop ≡ Refused → read' ≡ stepped size step tokens read)

-- a token that was taken leads to this step, whatever follows
abbrev pub Steps : {X : Type 0} → Result X Stop → Step → (X → State) → List Event → List Event → Type 0
Steps result step to read read' =
    MatchResult result
    (λ x. (size : ℕ) (tokens : List Tok) → whole size (to x) tokens read' ≡ stepped size step tokens read)
    (λ stop. stop ≡ Refused → (rest : State → List Event) → read' ≡ read ++ follow step rest)

-- a text of any size was read from one place to another
abbrev pub ReadsAny : {X : Type 0} → Result X Stop → State → (X → State) → List Tok → List Tok → List Event → List Event → Type 0
ReadsAny result from to tokens tokens' read read' =
    MatchResult result
    (λ x. ((size : ℕ) → whole size (to x) tokens' read' ≡ whole size from tokens read) × (length tokens' ≤ length tokens))
    (λ stop. stop ≡ Refused → (size : ℕ) → read' ≡ whole size from tokens read)

-- where a command goes on, and where it goes on or has ended
abbrev pub more_place : More → State
more_place more = continued more.line more.passes_word

abbrev pub place_behind : Option More → State
place_behind None = command
place_behind (Some more) = more_place more

-- behind a word of a list, or behind its end
abbrev pub list_place : Listing → Bool → State
list_place x more = (if more then listed x true else behind_list x)

-- behind a word that is passed over, or behind the command's end
abbrev pub passed_place : Bool → State
passed_place more = (if more then passed_over else command)
