-- The command line as a command of `clap`, and what its matches ask for.
use Rattle.std.specs.Prelude.{ℕ, List, true, ◌&&◌, nat_le, length, if◌then◌else◌, Option, Some, None, option_map, option_and_then, codes}
use Rattle.std.specs.Str.{bytes_eq}
use Rattle.clap.specs.Lexer.{usize_max}
use Rattle.clap.specs.Walk.{Rule, Row, Text, first_of, all_of, is_empty}
use Rattle.clap.specs.Simple.{App, new_rule, new_app, on_top, with_rule, with_subcommand, subcommand_of}
use Rattle.clap.specs.Faults.{fault_of}
use Rattle.command_words.specs.declared.matched.Documents.{Documents}
use Rattle.command_words.specs.Numbers.{within, multiple_within}
use Rattle.command_words.specs.Asked.{RunWords, GenerateWords, Words, run, generate}

-- a positional word that must stand
abbrev pub positional : Text → Rule
positional id = record (new_rule id) { required = true }

-- one positional word or more
abbrev pub several : Text → Rule
several id = record (positional id) { range = Some (record { start_inclusive = 1; end_inclusive = usize_max }) }

-- an option with one value, which may be left out
abbrev pub optional : Text → Text → Rule
optional id name = record (new_rule id) { long = Some name }

-- the names of the documents of a design
abbrev pub with_documents : App → App
with_documents app =
    with_rule (with_rule (with_rule (with_rule (with_rule app (positional (codes "EARLY"))) (positional (codes "LATE")))
    (positional (codes "NETLIST"))) (positional (codes "SDC"))) (positional (codes "SPEF"))

abbrev pub run_app : App
run_app =
    with_rule (with_rule (with_rule (with_documents (new_app (codes "run"))) (positional (codes "WORKERS"))) (several (codes "SCRIPT")))
    (optional (codes "JOURNAL") (codes "journal"))

abbrev pub generate_app : App
generate_app =
    with_rule (with_rule (with_rule (new_app (codes "generate"))
    (positional (codes "NUMBER"))) (positional (codes "GATES"))) (positional (codes "EDITS"))

-- the words are those after the program's name
abbrev pub lizdrog_app : App
lizdrog_app =
    with_subcommand (with_subcommand (on_top (λ s. record s { no_binary_name = true }) (new_app (codes "lizdrog"))) run_app.top) generate_app.top

-- the names of documents among matches
pub record Names : Type 0 where
  pub early : Text
  pub late : Text
  pub netlist : Text
  pub sdc : Text
  pub spef : Text

abbrev pub names_words : Documents → Names
names_words d = record { early = d.early.now; late = d.late.now; netlist = d.netlist.now; sdc = d.sdc.now; spef = d.spef.now }

abbrev pub names_in : List Row → Option Names
names_in rows =
    option_and_then (λ early. option_and_then (λ late. option_and_then (λ netlist. option_and_then (λ sdc. option_map (λ spef.
    record { early = early; late = late; netlist = netlist; sdc = sdc; spef = spef })
    (first_of (codes "SPEF") rows)) (first_of (codes "SDC") rows)) (first_of (codes "NETLIST") rows)) (first_of (codes "LATE") rows)) (first_of (codes "EARLY") rows)

-- a run with this saved journal, if any
abbrev pub run_with : Option Text → Option Names → Option ℕ → Option (List Text) → Option RunWords
run_with journal None workers scripts = None
run_with journal (Some names) None scripts = None
run_with journal (Some names) (Some workers) None = None
run_with journal (Some names) (Some workers) (Some scripts) =
    Some
    (record {
      early = names.early;
      late = names.late;
      netlist = names.netlist;
      sdc = names.sdc;
      spef = names.spef;
      journal = journal;
      workers = workers;
      scripts = scripts;
    })

abbrev pub few_scripts : List Text → Option (List Text)
few_scripts scripts = (if nat_le 1 (length scripts) && nat_le (length scripts) 16 then Some scripts else None)

abbrev pub workers_in : List Row → Option ℕ
workers_in rows = option_and_then (within 1 32) (first_of (codes "WORKERS") rows)

abbrev pub scripts_in : List Row → Option (List Text)
scripts_in rows = option_and_then few_scripts (all_of (codes "SCRIPT") rows)

abbrev pub journal_in : List Row → Option Text
journal_in rows = first_of (codes "JOURNAL") rows

-- what the matches of `run` ask for; none where the workers are not from 1 to 32, or the scripts not 1 to 16
abbrev pub run_in : List Row → Option RunWords
run_in rows = run_with (journal_in rows) (names_in rows) (workers_in rows) (scripts_in rows)

-- what the matches of `generate` ask for
abbrev pub generate_with : Option ℕ → Option ℕ → Option ℕ → Option GenerateWords
generate_with None gates edits = None
generate_with (Some number) None edits = None
generate_with (Some number) (Some gates) None = None
generate_with (Some number) (Some gates) (Some edits) = Some (record { number = number; gates = gates; edits = edits })

abbrev pub generate_in : List Row → Option GenerateWords
generate_in rows =
    generate_with (option_and_then (within 0 18446744073709551615) (first_of (codes "NUMBER") rows))
    (option_and_then (multiple_within 4 40000) (first_of (codes "GATES") rows))
    (option_and_then (multiple_within 0 4000) (first_of (codes "EDITS") rows))

abbrev pub asked_in : Text × List Row → Option Words
asked_in found =
    (if bytes_eq found.0 (codes "run") then option_map run (run_in found.1) else
    (if bytes_eq found.0 (codes "generate") then option_map generate (generate_in found.1) else None))

-- the command that the words give: none where `clap` refuses them, or they name no subcommand, or a number or a count is
-- out of its range
unfoldable pub words_of : List Text → Option Words
words_of words =
    (if is_empty (fault_of lizdrog_app words) then option_and_then asked_in (subcommand_of lizdrog_app words) else None)
