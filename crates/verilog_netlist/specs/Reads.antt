-- What a function of the grammar reads: how the tokens that are left and the events so far go on.
use Rattle.std.specs.Prelude.{◌≡◌, ℕ, ◌<◌, List, [], ◌∷◌, ◌++◌, Bool, false, length, if◌then◌else◌, Result, MatchResult, Option, Some, None}
use Rattle.timing_defs.specs.declared.codes.Code.TheVariants.{VerilogBadToken}
use Rattle.sta_text.specs.Tokens.{Tok}
use Rattle.verilog_netlist.specs.declared.events.Kind.{Kind}
use Rattle.verilog_netlist.specs.declared.events.Event.{Event}
use Rattle.verilog_netlist.specs.declared.cursor.Stop.{Stop}
use Rattle.verilog_netlist.specs.declared.cursor.Stop.TheVariants.{Refused}
use Rattle.verilog_netlist.specs.Grammar.{State, events, fault, unexpected, at_name, head_end, port, port_next, declared_name, item, conn, conn_next, inst_end, behind}

-- the events so far, and those that the tokens write from a place on
abbrev pub whole : ℕ → State → List Tok → List Event → List Event
whole size place tokens read = read ++ events size place tokens

-- the text was read from one place to another; where it is refused its events end with the fault
abbrev pub Reads : Result (Unit {0}) Stop → ℕ → State → State → List Tok → List Tok → List Event → List Event → Type 0
Reads result size from to tokens tokens' read read' =
    MatchResult result
    (λ _. (whole size to tokens' read' ≡ whole size from tokens read) × (length tokens' < length tokens))
    (λ stop. stop ≡ Refused → read' ≡ whole size from tokens read)

-- the same where the place that is reached depends on the answer
abbrev pub ReadsValue : {X : Type 0} → Result X Stop → ℕ → State → (X → State) → List Tok → List Tok → List Event → List Event → Type 0
ReadsValue result size from to tokens tokens' read read' =
    MatchResult result
    (λ x. (whole size (to x) tokens' read' ≡ whole size from tokens read) × (length tokens' < length tokens))
    (λ stop. stop ≡ Refused → read' ≡ whole size from tokens read)

-- the text was read to its end
abbrev pub Ends : Result (Unit {0}) Stop → ℕ → State → List Tok → List Event → List Event → Type 0
Ends result size from tokens read read' =
    MatchResult result (λ _. read' ≡ whole size from tokens read) (λ stop. stop ≡ Refused → read' ≡ whole size from tokens read)

-- a token stands first, and passes
abbrev pub first_fits : (Tok → Bool) → List Tok → Bool
first_fits test [] = false
first_fits test (t ∷ ts) = test t

-- what is wrong where the first token does not fit, or the text has ended
abbrev pub unfit : ℕ → List Tok → List Event
unfit size [] = fault VerilogBadToken size ∷ []
unfit size (t ∷ ts) = unexpected size t

-- the text is refused at its first token, which does not pass; the events end with that fault
abbrev pub Unfit : Stop → (Tok → Bool) → ℕ → List Tok → List Event → List Event → Type 0
Unfit stop test size tokens read read' =
    stop ≡ Refused → (first_fits test tokens ≡ false) × (read' ≡ read ++ unfit size tokens)

-- the name of a declared thing was read, of which the token was taken; then comes any rest
abbrev pub Names : Result (Unit {0}) Stop → ℕ → Bool → Tok → Event → List Event → List Event → Type 0
Names result size is_of_port t event read read' =
    MatchResult result
    (λ _. (rest : List Event) → read' ++ rest ≡ read ++ at_name size is_of_port t event rest)
    (λ stop. stop ≡ Refused → (rest : List Event) → read' ≡ read ++ at_name size is_of_port t event rest)

-- behind the first port of a header, or behind an empty list of ports
abbrev pub ports_place : Option (Option Kind) → State
ports_place None = head_end
ports_place (Some kind) = port_next kind

-- behind a declared name of the body, or a port of the header: another one comes, or the list ends
abbrev pub declared_place : Bool → Kind → State
declared_place more kind = (if more then declared_name kind else item)

abbrev pub header_place : Bool → Option Kind → State
header_place more kind = (if more then port kind else head_end)

-- behind the first connection of an instance, or behind an empty list of connections
abbrev pub first_place : Bool → State
first_place more = (if more then conn_next else inst_end)

-- behind a connection, behind an item
abbrev pub conn_place : Bool → State
conn_place more = (if more then conn else inst_end)

abbrev pub item_place : Bool → State
item_place more = (if more then item else behind)
