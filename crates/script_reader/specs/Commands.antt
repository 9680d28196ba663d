-- The commands of a session's script, by the words of a line (own; the reports are those of OpenTimer).
use Rattle.std.specs.Prelude.{ℕ, List, [], ◌∷◌, Bool, true, false, ◌==◌, ◌&&◌, nat_le, length, map, drop, if◌then◌else◌, codes, Option, Some, None, option_map, option_and_then}
use Rattle.std.specs.List.{list_all}
use Rattle.std.specs.Str.{bytes_eq}
use Rattle.timing_defs.specs.declared.kinds.Kind.{Kind}
use Rattle.timing_defs.specs.declared.kinds.Split.{Split}
use Rattle.timing_defs.specs.declared.kinds.Split.TheVariants.{Early, Late}
use Rattle.timing_defs.specs.declared.kinds.Tran.{Tran}
use Rattle.timing_defs.specs.declared.kinds.Tran.TheVariants.{Rise, Fall}
use Rattle.timing_defs.specs.declared.texts.Style.TheVariants.{Script as script_style}
use Rattle.timing_defs.specs.declared.reports.Candidate.{Candidate}
use Rattle.timing_defs.specs.declared.reports.Query.{Query}
use Rattle.timing_defs.specs.declared.closing.ClosingQuery.{ClosingQuery}
use Rattle.timing_defs.specs.declared.reports.Query.TheVariants.{Slew, At, Rat, Slack, Endpoint, WorstPath, Wns, Tns, Worst, Through, Paths, Advise, Closing}
use Rattle.timing_defs.specs.declared.scripts.Command.{Command}
use Rattle.timing_defs.specs.declared.scripts.Command.TheVariants.{Take, Await, Ask}
use Rattle.script_reader.specs.declared.commands.Node.{Node}
use Rattle.sta_text.specs.Tokens.{Tok, tokens_of}
use Rattle.eco_journal.specs.Lines.{Part}
use Rattle.eco_journal.specs.Words.{text, says, is_word, number_of, within}
use Rattle.eco_journal.specs.EditLines.{names, texts_of}
use Rattle.script_reader.specs.Words.{kind_of, endpoint_of, only_kind, are_pairs, candidates_of}
use Rattle.script_reader.specs.ClosingCommands.{closing_of}

abbrev pub word_of : Tok → Part
word_of token = record { text = token.text; at = token.start }

-- the words of a line, which blanks and tabs separate; a byte that no word may have is one by itself
abbrev pub words_in : List ℕ → List Part
words_in line = map word_of (tokens_of script_style line)

abbrev pub split_of : List ℕ → Option Split
split_of word = (if bytes_eq word (codes "early") then Some Early else (if bytes_eq word (codes "late") then Some Late else None))

abbrev pub tran_of : List ℕ → Option Tran
tran_of word = (if bytes_eq word (codes "rise") then Some Rise else (if bytes_eq word (codes "fall") then Some Fall else None))

abbrev pub node_at : List ℕ → Option Split → Option Tran → Option Node
node_at pin None tran = None
node_at pin (Some split) None = None
node_at pin (Some split) (Some tran) = Some (record { pin = pin; split = split; tran = tran })

-- PIN SPLIT TRAN behind a command
abbrev pub node_of : List Part → Option Node
node_of words =
    (if length words == 4 && names words 1 then node_at (text words 1) (split_of (text words 2)) (tran_of (text words 3)) else None)

abbrev pub worst_at : Option Kind → Option ℕ → Option Query
worst_at None count = None
worst_at (Some kind) None = None
worst_at (Some kind) (Some count) = Some (Worst kind count)

-- KIND N behind a command, N from 1 to 100
abbrev pub worst_of : List Part → Option Query
worst_of words =
    (if length words == 3 then worst_at (kind_of (text words 1)) (within 1 100 (number_of (text words 2))) else None)

-- the question about a node
abbrev pub node_asked : List Part → Node → Option Query
node_asked words n =
    (if says words 0 (codes "report_slew") then Some (Slew n.pin n.split n.tran) else
    (if says words 0 (codes "report_at") then Some (At n.pin n.split n.tran) else
    (if says words 0 (codes "report_rat") then Some (Rat n.pin n.split n.tran) else
    (if says words 0 (codes "report_slack") then Some (Slack n.pin n.split n.tran) else None))))

abbrev pub node_query : List Part → Option Query
node_query words = option_and_then (node_asked words) (node_of words)

-- the question about an endpoint
abbrev pub endpoint_asked : List Part → List ℕ × Kind → Option Query
endpoint_asked words e =
    (if says words 0 (codes "report_endpoint") then Some (Endpoint e.0 e.1) else
    (if says words 0 (codes "report_path") then Some (WorstPath e.0 e.1) else None))

abbrev pub endpoint_query : List Part → Option Query
endpoint_query words = option_and_then (endpoint_asked words) (endpoint_of words)

abbrev pub total_asked : List Part → Kind → Option Query
total_asked words kind =
    (if says words 0 (codes "report_wns") then Some (Wns kind) else
    (if says words 0 (codes "report_tns") then Some (Tns kind) else None))

-- the question about all endpoints
abbrev pub total_query : List Part → Option Query
total_query words =
    (if says words 0 (codes "report_worst") then worst_of words else option_and_then (total_asked words) (only_kind words))

abbrev pub through_at : List ℕ → List (List ℕ) → Option Kind → Option Query
through_at pin pins None = None
through_at pin pins (Some kind) = Some (Through pin kind pins)

-- PIN KIND and 1 to 16 names behind a command
abbrev pub through_of : List Part → Option Query
through_of words =
    (if nat_le 4 (length words) && nat_le (length words) 19 && names words 1 && list_all is_word (drop 3 words)
    then through_at (text words 1) (texts_of (drop 3 words)) (kind_of (text words 2))
    else None)

abbrev pub paths_at : List ℕ → Option Kind → Option ℕ → Option Query
paths_at pin None count = None
paths_at pin (Some kind) None = None
paths_at pin (Some kind) (Some count) = Some (Paths pin kind count)

-- PIN KIND K behind a command, K from 1 to 100
abbrev pub paths_of : List Part → Option Query
paths_of words =
    (if length words == 4 && names words 1
    then paths_at (text words 1) (kind_of (text words 2)) (within 1 100 (number_of (text words 3)))
    else None)

-- the question about paths to an endpoint
abbrev pub path_query : List Part → Option Query
path_query words =
    (if says words 0 (codes "report_through") then through_of words else
    (if says words 0 (codes "report_paths") then paths_of words else None))

abbrev pub advise_at : List Candidate → Option Kind → Option Query
advise_at candidates None = None
advise_at candidates (Some kind) = Some (Advise kind candidates)

-- KIND and 1 to 100 pairs of names behind a command
abbrev pub advise_of : List Part → Option Query
advise_of words =
    (if nat_le 4 (length words) && nat_le (length words) 202 && are_pairs (drop 2 words)
    then advise_at (candidates_of (drop 2 words)) (kind_of (text words 1))
    else None)

-- the question about resizes
abbrev pub advise_query : List Part → Option Query
advise_query words = (if says words 0 (codes "advise") then advise_of words else None)

-- the first of two that is there
abbrev pub first_of_two : Option Query → Option Query → Option Query
first_of_two None other = other
first_of_two (Some q) other = Some q

-- a question that closing timing needs
abbrev pub closing : ClosingQuery → Query
closing q = Closing q

abbrev pub closing_query : List Part → Option Query
closing_query words = option_map closing (closing_of words)

-- the question of a line
abbrev pub query_of : List Part → Option Query
query_of words =
    first_of_two (node_query words)
    (first_of_two (endpoint_query words) (first_of_two (total_query words) (first_of_two (path_query words)
    (first_of_two (advise_query words) (closing_query words)))))

abbrev pub awaited : Option ℕ → Option ℕ → Option Command
awaited None looks = None
awaited (Some number) None = None
awaited (Some number) (Some looks) = Some (Await number looks)

-- `await N L`, L from 1 to 1,000
abbrev pub await_of : List Part → Option Command
await_of words =
    (if length words == 3
    then awaited (within 0 18446744073709551615 (number_of (text words 1))) (within 1 1000 (number_of (text words 2)))
    else None)

abbrev pub asked : Query → Command
asked q = Ask q

abbrev pub take_of : List Part → Option Command
take_of words = (if length words == 1 then Some Take else None)

-- the command of a line that is no edit
unfoldable pub command_of : List Part → Option Command
command_of words =
    (if says words 0 (codes "take") then take_of words else
    (if says words 0 (codes "await") then await_of words else option_map asked (query_of words)))
