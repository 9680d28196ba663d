-- What a function of the grammar reads: how the tokens that are left and the events so far go on.
use Rattle.std.specs.Prelude.{◌≡◌, ℕ, ◌<◌, ◌≤◌, List, [], ◌++◌, Bool, true, false, length, if◌then◌else◌, Result, MatchResult, Option}
use Rattle.sta_text.specs.Tokens.{Tok}
use Rattle.spef_reader.specs.declared.context.Context.{Context}
use Rattle.spef_reader.specs.declared.events.Event.{Event}
use Rattle.spef_reader.specs.declared.tokens.Stop.{Stop}
use Rattle.spef_reader.specs.declared.tokens.Stop.TheVariants.{Refused}
use Rattle.spef_reader.specs.Grammar.{Place, events, conn_row, direction}

-- the events so far, and those that the tokens write from a place on
abbrev pub whole : Context → Place → List Tok → List Event → List Event
whole c place tokens read = read ++ events c place tokens

-- the text was read from one place to another; where it is refused its events end with the fault
abbrev pub Reads : Result (Unit {0}) Stop → Context → Place → Context → Place → List Tok → List Tok → List Event → List Event → Type 0
Reads result c from c' to tokens tokens' read read' =
    MatchResult result
    (λ _. (whole c' to tokens' read' ≡ whole c from tokens read) × (length tokens' ≤ length tokens))
    (λ stop. stop ≡ Refused → read' ≡ whole c from tokens read)

-- the same where the place that is reached depends on the answer
abbrev pub ReadsValue : {X : Type 0} → Result X Stop → Context → Place → (X → Place) → List Tok → List Tok → List Event → List Event → Type 0
ReadsValue result c from to tokens tokens' read read' =
    MatchResult result
    (λ x. (whole c (to x) tokens' read' ≡ whole c from tokens read) × (length tokens' ≤ length tokens))
    (λ stop. stop ≡ Refused → read' ≡ whole c from tokens read)

-- so many tokens are left at most, and fewer where there is more to read
abbrev pub Fewer : Bool → List Tok → List Tok → Type 0
Fewer true tokens tokens' = length tokens' < length tokens
Fewer false tokens tokens' = length tokens' ≤ length tokens

-- a row was read, where there is one, or the text goes on at another place
abbrev pub ReadsRow : Result Bool Stop → Context → Place → Context → Place → Place → List Tok → List Tok → List Event → List Event → Type 0
ReadsRow result c from c' again behind tokens tokens' read read' =
    MatchResult result
    (λ more. (whole c' (if more then again else behind) tokens' read' ≡ whole c from tokens read) × Fewer more tokens tokens')
    (λ stop. stop ≡ Refused → read' ≡ whole c from tokens read)

-- tokens were taken, or none is left
abbrev pub Advance : Bool → List Tok → List Tok → Type 0
Advance true tokens tokens' = length tokens' < length tokens
Advance false tokens tokens' = tokens' ≡ []

-- the text was read to its end
abbrev pub Ends : Result (Unit {0}) Stop → Context → Place → List Tok → List Event → List Event → Type 0
Ends result c from tokens read read' =
    MatchResult result (λ _. read' ≡ whole c from tokens read) (λ stop. stop ≡ Refused → read' ≡ whole c from tokens read)

-- behind the node of a connection
abbrev pub conn_place : Option (List ℕ) → Bool → Place
conn_place net directed = (if directed then direction net else conn_row net true)
