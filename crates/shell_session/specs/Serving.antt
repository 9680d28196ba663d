-- What a run of the server ends with: its status, and the bytes that it writes or would have written.

use Rattle.std.specs.Prelude.{◌≡◌, ◌⊎◌, ◌≤◌, ℕ, true, List, [], ◌∷◌, length, Option, Some, None, Ok, Err, ⊤}
use Rattle.sta_outside.specs.Shelf.{held, document_limit, Rose}
use Rattle.sta_outside.specs.Sink.{Appends, AppendsPrefix}
use Rattle.timing_defs.specs.declared.edits.Entry.{Entry}
use Rattle.timing_defs.specs.declared.faults.Fault.{Fault}
use Rattle.timing_defs.specs.declared.design.Design.{Design}
use Rattle.timing_defs.specs.declared.scripts.Script.{Script}
use Rattle.timing_defs.specs.declared.scripts.Transcript.{Transcript}
use Rattle.timing_defs.specs.declared.scripts.Totals.{Totals}
use Rattle.timing_defs.specs.Documents.{are_constraints}
use Rattle.timing_rules.specs.Checks.{Faulty}
use Rattle.timing_defs.specs.Output.{journal_text, output_text}
use Rattle.timing_rules.specs.Reports.{AreTotals}
use Rattle.timing_defs.specs.Saved.{block_text, saved_output_text}
use Rattle.timing_rules.specs.Sessions.{IsWhole, IsOutput, IsSavedOutput, IsInitial, IsRefusedEntry}
use Rattle.sta_text.specs.declared.faults.Wrong.{Wrong}
use Rattle.eco_journal.specs.Blocks.{block_of}
use Rattle.eco_journal.specs.Journal.{entries_of}
use Rattle.eco_analysis.specs.Soundness.{IsFaultless}
use Rattle.session_engine.specs.Versions.{Versioned}
use Rattle.session_engine.specs.declared.replaying.ReplayFault.{ReplayFault}
use Rattle.session_engine.specs.declared.replaying.ReplayFault.TheVariants.{First, Refused, Memory as no_memory}
use Rattle.shell_core.specs.Answers.{status_of}
use Rattle.command_words.specs.Asked.{RunWords, Words}
use Rattle.command_words.specs.Asked.{run as run_asked, generate as generate_asked}
use Rattle.shell_core.specs.declared.documents.Role.{Role}
use Rattle.shell_core.specs.declared.documents.How.{How}
use Rattle.shell_core.specs.declared.documents.Documents.{Documents}
use Rattle.shell_core.specs.Documents.{Docs, sources, name_of, HasFaults, FirstRefused, ShelfFails, AreDocuments, words_line, design_line, entry_line, refusal_line, shelf_line}
use Rattle.shell_session.specs.Linking.{linked_of}
use Rattle.shell_session.specs.Generating.{IsSummary}

-- the answer of a run of scripts over a design: the whole output of a journal and transcripts, whose
-- bytes of the journal are read back as its entries
abbrev pub IsAnswer : Design → List Script → ℕ → List ℕ → Type 0
IsAnswer d scripts status text =
    (journal : List Entry) × (ts : List Transcript)
    × IsWhole d 0 scripts journal ts × IsOutput d 0 journal ts text × (status ≡ status_of ts)
    × (entries_of (journal_text journal) ≡ Ok journal)

-- the output of sessions that left this version and these transcripts
abbrev pub IsOutputOf : Versioned → List Transcript → List ℕ → Type 0
IsOutputOf v ts text =
    (totals : Totals) × AreTotals v.stored.design v.number totals
    × (text ≡ output_text v.journal ts v.stored.design.constraints.clocks totals)

-- how sessions end that have answered their scripts: with their output, and the status of their rows
pub record AreEnded (v : Versioned) (ts : List Transcript) (status : ℕ) (text : List ℕ) : Type 0 where
  pub written : IsOutputOf v ts text
  pub counted : status ≡ status_of ts

-- how a run over a design ends: with a fault of the design, or with an answer where it has none
abbrev pub DesignEnds : Design → List Script → ℕ → List ℕ → Type 0
DesignEnds d scripts status text =
    ((status ≡ 3) × ((x : Fault) × Faulty d x × (text ≡ design_line x)))
    ⊎ (IsFaultless d × IsAnswer d scripts status text)

-- the answer of a run of scripts over an initial design, behind so many saved entries: the whole output, whose journal is
-- one block that is read back as their number, the factors of the constraints, and its entries
abbrev pub IsContinued : Design → ℕ → List Script → ℕ → List ℕ → Type 0
IsContinued initial first scripts status text =
    (journal : List Entry) × (ts : List Transcript)
    × (output : IsSavedOutput initial first journal ts text) × IsWhole initial first scripts journal ts × (status ≡ status_of ts)
    × (block_of (block_text first output.0.constraints.derates journal)
    ≡ Some (record { first = first; derates = initial.constraints.derates; entries = journal }))

-- the output of sessions that left this version and these transcripts, behind saved entries
abbrev pub IsSavedOutputOf : Versioned → List Transcript → List ℕ → Type 0
IsSavedOutputOf v ts text =
    (totals : Totals) × AreTotals v.stored.design v.number totals
    × (text ≡ saved_output_text v.first v.stored.design.constraints.derates v.journal ts v.stored.design.constraints.clocks totals)

-- how such sessions end
pub record AreSavedEnded (v : Versioned) (ts : List Transcript) (status : ℕ) (text : List ℕ) : Type 0 where
  pub written : IsSavedOutputOf v ts text
  pub counted : status ≡ status_of ts
  pub constraints : are_constraints v.stored.design.constraints ≡ true

-- the line of a run that goes on from a saved journal and is stopped before its sessions
abbrev pub IsReplayLine : ReplayFault → List ℕ → Type 0
IsReplayLine (First x) text = text ≡ design_line x
IsReplayLine (Refused entry x) text = text ≡ entry_line entry x
IsReplayLine no_memory text = ⊥

-- how a run over a linked design ends that goes on from saved entries: with a fault of the design, with the first saved entry
-- that is refused, or with an answer over the design after all of them
abbrev pub SavedEnds : Design → List Entry → List Script → ℕ → List ℕ → Type 0
SavedEnds linked saved scripts status text =
    ((status ≡ 3) × ((x : Fault) × Faulty linked x × (text ≡ design_line x)))
    ⊎ ((status ≡ 3) × ((entry : ℕ) × (x : Fault) × IsRefusedEntry linked saved entry x × (text ≡ entry_line entry x)))
    ⊎ (IsFaultless linked
    × ((initial : Design) × IsInitial linked saved initial × IsContinued initial (length saved) scripts status text))

-- how a run over a linked design ends, with a saved journal or without
abbrev pub BegunEnds : Design → Option (List Entry) → List Script → ℕ → List ℕ → Type 0
BegunEnds linked None scripts status text = DesignEnds linked scripts status text
BegunEnds linked (Some saved) scripts status text = SavedEnds linked saved scripts status text

-- how a run ends whose documents were read: with the fault of linking them, or over their design
abbrev pub DocumentsEnd : Documents → ℕ → List ℕ → Type 0
DocumentsEnd docs status text =
    ((status ≡ 3) × ((x : Fault) × (linked_of docs ≡ Err x) × (text ≡ design_line x)))
    ⊎ ((d : Design) × (linked_of docs ≡ Ok d) × BegunEnds d docs.saved docs.scripts status text)

-- how a run ends, with the line or the output that is written
abbrev pub RunEnds : Docs → ℕ → ℕ → RunWords → ℕ → List ℕ → Type 0
RunEnds holds old new run status text =
    ((status ≡ 3)
    × ((role : Role) × (wrong : Wrong) × FirstRefused holds run (sources run) role wrong × (text ≡ refusal_line role wrong)))
    ⊎ ((status ≡ 4)
    × ((role : Role) × (how : How) × ShelfFails holds run old new (sources run) role how × (text ≡ shelf_line (name_of run role) how)))
    ⊎ ((docs : Documents) × AreDocuments holds run docs × DocumentsEnd docs status text)

-- how the server ends, by what its words ask for
abbrev pub Ends : Docs → ℕ → ℕ → Option Words → ℕ → List ℕ → Type 0
Ends holds old new None status text = (status ≡ 2) × (text ≡ words_line)
Ends holds old new (Some (run_asked run)) status text = RunEnds holds old new run status text
Ends holds old new (Some (generate_asked asked)) status text = (status ≡ 0) × IsSummary asked.number asked.gates asked.edits text

-- what stands at the sink after a run, by its status: all that the run ends with, a prefix of it
-- where the sink failed, or nothing for want of memory
abbrev pub Written : Option (List ℕ) → Option (List ℕ) → ℕ → ℕ → Docs → ℕ → ℕ → Option Words → ℕ → Type 0
Written old new faults faults' holds f f' asked status =
    ((status ≡ 5) × Rose faults faults'
    × ((meant : ℕ) × (text : List ℕ) × Ends holds f f' asked meant text × AppendsPrefix old new text))
    ⊎ ((status ≡ 6) × Appends old new [] × (faults' ≡ faults))
    ⊎ ((status ≤ 4) × (faults' ≡ faults) × ((text : List ℕ) × Ends holds f f' asked status text × Appends old new text))

-- a told document within the limit, and without a fault
abbrev pub HasText : List (List ℕ × List ℕ) → RunWords → Role → Type 0
HasText map run role =
    (text : List ℕ) × (held map (name_of run role) ≡ Some text) × (length text ≤ document_limit) × HasFaults (Some map) run role text []

abbrev pub HasTexts : List (List ℕ × List ℕ) → RunWords → List Role → Type 0
HasTexts map run [] = ⊤
HasTexts map run (role ∷ roles) = HasText map run role × HasTexts map run roles

-- each saved entry is accepted at its place
abbrev pub AreAccepted : Design → Option (List Entry) → Type 0
AreAccepted linked None = ⊤
AreAccepted linked (Some saved) = (initial : Design) × IsInitial linked saved initial

-- documents that are linked to a design without a fault, in which each saved entry is accepted at its place
abbrev pub AreSound : Documents → Type 0
AreSound docs = (d : Design) × (linked_of docs ≡ Ok d) × IsFaultless d × AreAccepted d docs.saved

-- where nothing refuses what the words ask for: of a run, the shelf tells each document, what they say is sound, and neither
-- the shelf nor the sink failed; of a generated run, the sink did not
abbrev pub NothingRefuses : Docs → ℕ → ℕ → ℕ → ℕ → Option Words → Type 0
NothingRefuses holds f f' faults faults' None = ⊥
NothingRefuses holds f f' faults faults' (Some (run_asked run)) =
    (map : List (List ℕ × List ℕ)) × (holds ≡ Some map) × HasTexts map run (sources run)
    × ((docs : Documents) → AreDocuments (Some map) run docs → AreSound docs)
    × (Rose f f' → ⊥) × (Rose faults faults' → ⊥)
NothingRefuses holds f f' faults faults' (Some (generate_asked asked)) = Rose faults faults' → ⊥

-- it is answered, or memory is wanting
abbrev pub IsAnswered : Option Words → ℕ → Type 0
IsAnswered None status = ⊥
IsAnswered (Some (run_asked run)) status = (status ≡ 0) ⊎ (status ≡ 1) ⊎ (status ≡ 6)
IsAnswered (Some (generate_asked asked)) status = (status ≡ 0) ⊎ (status ≡ 6)
