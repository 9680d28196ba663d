-- The words of a live run as a command of `clap`, and what its matches ask for.
use Rattle.std.specs.Prelude.{ℕ, List, [], ◌∷◌, true, nat_le, length, if◌then◌else◌, Option, Some, None, option_map, option_and_then, codes}
use Rattle.std.specs.Str.{bytes_eq}
use Rattle.clap.specs.Lexer.{usize_max}
use Rattle.clap.specs.Walk.{Rule, Row, Text, all_of, is_empty}
use Rattle.clap.specs.Simple.{App, new_rule, new_app, on_top, with_rule, with_subcommand, subcommand_of}
use Rattle.clap.specs.Faults.{fault_of}
use Rattle.command_words.specs.Command.{positional, optional, with_documents, Names, names_in, workers_in, journal_in}
use Rattle.live_words.specs.Asked.{LiveAsked}

-- any number of positional words
abbrev pub repeated : Text → Rule
repeated id = record (new_rule id) { range = Some (record { start_inclusive = 1; end_inclusive = usize_max }) }

abbrev pub live_app : App
live_app =
    with_rule (with_rule (with_rule (with_documents (new_app (codes "live"))) (positional (codes "WORKERS"))) (repeated (codes "NAME")))
    (optional (codes "JOURNAL") (codes "journal"))

-- the words are those after the program's name
abbrev pub lizdrog_app : App
lizdrog_app = with_subcommand (on_top (λ s. record s { no_binary_name = true }) (new_app (codes "lizdrog"))) live_app.top

-- names of inputs and of outputs in turns, as pairs: none where an input lacks its output
abbrev pub pairs_of : List Text → Option (List (Text × Text))
pairs_of [] = Some []
pairs_of (input ∷ []) = None
pairs_of (input ∷ output ∷ names) = option_map (λ pairs. (input, output) ∷ pairs) (pairs_of names)

-- the same of at most 16 pairs
abbrev pub few_pairs : List Text → Option (List (Text × Text))
few_pairs names = (if nat_le (length names) 32 then pairs_of names else None)

-- no pair where no name was given
abbrev pub given_pairs : Option (List Text) → Option (List (Text × Text))
given_pairs None = Some []
given_pairs (Some names) = few_pairs names

abbrev pub pairs_in : List Row → Option (List (Text × Text))
pairs_in rows = given_pairs (all_of (codes "NAME") rows)

-- a live run with this journal, if any
abbrev pub live_with : Option Text → Option Names → Option ℕ → Option (List (Text × Text)) → Option LiveAsked
live_with journal None workers pairs = None
live_with journal (Some names) None pairs = None
live_with journal (Some names) (Some workers) None = None
live_with journal (Some names) (Some workers) (Some pairs) =
    Some
    (record {
      early = names.early;
      late = names.late;
      netlist = names.netlist;
      sdc = names.sdc;
      spef = names.spef;
      journal = journal;
      workers = workers;
      pairs = pairs;
    })

-- what the matches of `live` ask for; none where the workers are not from 1 to 32, or the names not 0 to 16 pairs
abbrev pub live_in : List Row → Option LiveAsked
live_in rows = live_with (journal_in rows) (names_in rows) (workers_in rows) (pairs_in rows)

abbrev pub asked_in : Text × List Row → Option LiveAsked
asked_in found = (if bytes_eq found.0 (codes "live") then live_in found.1 else None)

-- what the words ask for: none where `clap` refuses them, or they name no subcommand, or a number or a count is out of its range
unfoldable pub words_of : List Text → Option LiveAsked
words_of words =
    (if is_empty (fault_of lizdrog_app words) then option_and_then asked_in (subcommand_of lizdrog_app words) else None)
