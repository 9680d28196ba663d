-- How a live run ends: what its sessions were told, what stands in the journal's file, and what is written of the whole.

use Rattle.std.specs.Prelude.{ℕ, ◌≡◌, ◌⊎◌, ◌+◌, max, List, [], ◌∷◌, ◌++◌, length, Option, Some, None, is_some, Bool, true, false, Result, Ok, Err}
use Rattle.sta_outside.specs.Shelf.{Rose}
use Rattle.sta_outside.specs.Sink.{Appends, AppendsPrefix}
use Rattle.timing_defs.specs.declared.constraints.Derates.{Derates}
use Rattle.timing_defs.specs.declared.codes.ReadFault.TheVariants.{At}
use Rattle.timing_defs.specs.declared.design.Design.{Design}
use Rattle.timing_defs.specs.declared.edits.Entry.{Entry}
use Rattle.timing_defs.specs.declared.scripts.Totals.{Totals}
use Rattle.timing_defs.specs.Output.{final_text}
use Rattle.timing_rules.specs.Reports.{AreTotals}
use Rattle.timing_rules.specs.Sessions.{DesignAfter}
use Rattle.sta_text.specs.declared.faults.Wrong.{Wrong}
use Rattle.sta_text.specs.Faults.{least_from}
use Rattle.command_words.specs.Asked.{RunWords}
use Rattle.shell_core.specs.declared.documents.Role.{Role}
use Rattle.shell_core.specs.declared.documents.Role.TheVariants.{Journal}
use Rattle.shell_core.specs.declared.documents.How.{How}
use Rattle.shell_core.specs.declared.documents.DesignDocuments.{DesignDocuments}
use Rattle.shell_core.specs.Documents.{Docs, Says, SaysJournal, FirstRefused, ShelfFails, name_of, journal_faults, refusal_line, shelf_line, words_line}
use Rattle.shell_core.specs.Designs.{AreDesign, design_sources, fetched_journal}
use Rattle.begun_version.specs.Beginning.{entries_in, BeginsWith, IsRefusedBy}
use Rattle.live_words.specs.Asked.{LiveAsked}
use Rattle.live_doors.specs.declared.door.Lost.{Lost}
use Rattle.live_journal.specs.declared.desks.Unkept.{Unkept}
use Rattle.live_journal.specs.Ends.{end_of}
use Rattle.live_session.specs.Talks.{AtDoor}
use Rattle.live_run.specs.declared.ended.Parted.{Parted}
use Rattle.live_run.specs.Runs.{AtFile, IsLiveRun}
use Rattle.live_server.specs.Statuses.{sessions_status, kept_status}

-- the documents that the words of a live run name: those of a run without scripts
abbrev pub documents_of : LiveAsked → RunWords
documents_of asked =
    record {
      early = asked.early;
      late = asked.late;
      netlist = asked.netlist;
      sdc = asked.sdc;
      spef = asked.spef;
      journal = asked.journal;
      workers = asked.workers;
      scripts = [];
    }

-- how many sessions the words ask for: one for each pair, and one where there is no pair
abbrev pub sessions_asked : LiveAsked → ℕ
sessions_asked asked = max 1 (length asked.pairs)

-- the fault of a saved journal's text: that its last line lacks its line feed, or else its first fault
abbrev pub JournalFails : Derates → Wrong → List ℕ → Type 0
JournalFails derates wrong text =
    (end_of text ≡ Err (At wrong.code wrong.at))
    ⊎ ((end_of text ≡ Ok tt) × (least_from None (journal_faults derates text) ≡ Some wrong))

-- the documents of the design are read, and the saved journal has this fault
abbrev pub IsJournalRefused : Docs → RunWords → Wrong → Type 0
IsJournalRefused holds run wrong =
    (docs : DesignDocuments) × AreDesign holds run docs × (is_some run.journal ≡ true)
    × Says holds (name_of run Journal) (JournalFails docs.sdc.derates wrong)

-- no journal is named; or it is read, and more may stand behind its text: that is empty or ends in a line feed
abbrev pub IsWholeSaved : Docs → RunWords → Derates → Option (List Entry) → Type 0
IsWholeSaved holds run derates None = run.journal ≡ None
IsWholeSaved holds run derates (Some saved) =
    (is_some run.journal ≡ true)
    × Says holds (name_of run Journal) (λ text. SaysJournal derates saved text × (end_of text ≡ Ok tt))

-- why a live run does not begin, with its status and its line: a document of the design has a fault, all before it being read; the shelf did
-- not give a document of the design or the journal; the saved journal has a fault; or the design or a saved entry is refused. Where the shelf
-- gave all it has no new fault
abbrev pub IsRefused : Docs → ℕ → ℕ → RunWords → ℕ → List ℕ → Type 0
IsRefused holds f f' run status line =
    ((status ≡ 3) × (f' ≡ f)
    × ((role : Role) × (wrong : Wrong) × FirstRefused holds run (design_sources run) role wrong × (line ≡ refusal_line role wrong)))
    ⊎ ((status ≡ 4)
    × ((role : Role) × (how : How) × ShelfFails holds run f f' (design_sources run ++ fetched_journal run) role how
    × (line ≡ shelf_line (name_of run role) how)))
    ⊎ ((status ≡ 3) × (f' ≡ f)
    × ((wrong : Wrong) × IsJournalRefused holds run wrong × (line ≡ refusal_line Journal wrong)))
    ⊎ ((status ≡ 3) × (f' ≡ f)
    × ((docs : DesignDocuments) × (saved : Option (List Entry))
    × AreDesign holds run docs × IsWholeSaved holds run docs.sdc.derates saved × IsRefusedBy docs saved line))

-- what a sink was given, where it tells it, and its faults
pub record Out : Type 0 where
  pub written : Option (List ℕ)
  pub faults : ℕ

abbrev pub out_at : Option (List ℕ) → ℕ → Out
out_at written faults = record { written = written; faults = faults }

abbrev pub IsStill : Out → Out → Type 0
IsStill old new = Appends old.written new.written [] × (new.faults ≡ old.faults)

-- a line is put, with the status meant; where the sink failed a prefix of it, with at least 5
abbrev pub TellsLine : Out → Out → List ℕ → ℕ → ℕ → Type 0
TellsLine old new line meant status =
    ((status ≡ meant) × Appends old.written new.written line × (new.faults ≡ old.faults))
    ⊎ ((status ≡ max meant 5) × AppendsPrefix old.written new.written line × Rose old.faults new.faults)

-- the documents are read, and the run begins with this design, behind these saved entries
pub record IsBegun (holds : Docs) (run : RunWords) (initial : Design) (saved : List Entry) : Type 0 where
  pub docs : DesignDocuments
  pub entries : Option (List Entry)
  pub read : AreDesign holds run docs
  pub whole : IsWholeSaved holds run docs.sdc.derates entries
  pub begins : BeginsWith docs entries initial
  pub saved_are : entries_in entries ≡ saved

-- the line of the totals behind all entries
abbrev pub IsFinal : Design → ℕ → List Entry → List ℕ → Type 0
IsFinal initial first J line =
    (last : Design) × (totals : Totals) × DesignAfter initial J (length J) last × AreTotals last (first + length J) totals × (line ≡ final_text totals)

-- what sessions have left, and the line behind them: it is told, or memory is wanting for it
abbrev pub TellsFinal : Out → Out → List ℕ → ℕ → ℕ → Type 0
TellsFinal old new line meant status =
    TellsLine old new line meant status ⊎ ((status ≡ max meant 6) × IsStill old new)

module _ {D : Type 0} where
  -- the sessions that the words ask for were held: over an initial design, behind its saved entries, they are a live run over a journal J,
  -- which is kept where the words name one
  pub record IsHeld (told : D → AtDoor) (lines : ℕ → Option (List (List ℕ))) (denies : ℕ → Lost → Type 0) (keeps : Bool) (asked_for : ℕ) (holds : Docs) (run : RunWords)
      (before after : AtFile) (old new : Out) (sessions : List (Parted D)) (status : ℕ) : Type 0 where
    pub many : length sessions ≡ asked_for
    pub named : is_some run.journal ≡ keeps
    pub initial : Design
    pub saved : List Entry
    pub begun : IsBegun holds run initial saved
    pub J : List Entry
    pub kept : Result Unit Unkept
    pub held : IsLiveRun told lines denies (record { clocks = initial.constraints.clocks; keeps = keeps }) initial (length saved) J
        before after initial.constraints.derates sessions kept
    pub line : List ℕ
    pub final : IsFinal initial (length saved) J line
    pub out : TellsFinal old new line (max (sessions_status sessions) (kept_status kept)) status

  -- how a live run ends, in one of four ways: it is refused with a line; its journal is named and its file is not there to be written; its sessions
  -- were held; or memory was wanting before the first one began. Where none was held the journal's file is as it was
  abbrev pub LiveEnds : (D → AtDoor) → (ℕ → Option (List (List ℕ))) → (ℕ → Lost → Type 0) → Bool → ℕ → Docs → ℕ → ℕ → RunWords
      → AtFile → AtFile → Out → Out → List (Parted D) → ℕ → Type 0
  LiveEnds told lines denies keeps asked_for holds f f' run before after old new sessions status =
      ((sessions ≡ []) × (after ≡ before)
      × ((meant : ℕ) × (line : List ℕ) × IsRefused holds f f' run meant line × TellsLine old new line meant status))
      ⊎ ((sessions ≡ []) × (after ≡ before) × (keeps ≡ false) × (is_some run.journal ≡ true)
      × ((initial : Design) × (saved : List Entry) × IsBegun holds run initial saved) × (status ≡ 5) × IsStill old new)
      ⊎ IsHeld told lines denies keeps asked_for holds run before after old new sessions status
      ⊎ ((sessions ≡ []) × (after ≡ before) × (status ≡ 6) × IsStill old new)

-- how a run ends whose words ask for nothing
abbrev pub RefusesWords : Out → Out → ℕ → Type 0
RefusesWords old new status = TellsLine old new words_line 2 status ⊎ ((status ≡ 6) × IsStill old new)
