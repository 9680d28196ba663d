-- How a live run begins: the version with which its sessions are held, or why there is none.

use Rattle.std.specs.Prelude.{ℕ, ◌≡◌, List, [], length, Option, Some, None, Ok, IsSomeAnd, ⊤}
use Rattle.timing_defs.specs.declared.constraints.Derates.{Derates}
use Rattle.timing_defs.specs.declared.edits.Entry.{Entry}
use Rattle.sta_text.specs.declared.faults.Wrong.{Wrong}
use Rattle.command_words.specs.Asked.{RunWords}
use Rattle.session_engine.specs.Versions.{Versioned}
use Rattle.shell_core.specs.declared.documents.Role.TheVariants.{Journal}
use Rattle.shell_core.specs.declared.documents.Stop.{Stop}
use Rattle.shell_core.specs.declared.documents.Stop.TheVariants.{Refused as refused_at, Missing, Memory as no_room}
use Rattle.shell_core.specs.Documents.{Docs, SaysJournal, name_of, refusal_line, shelf_line}
use Rattle.begun_version.specs.declared.beginning.Unbegun.{Unbegun}
use Rattle.begun_version.specs.declared.beginning.Unbegun.TheVariants.{Refused, Memory}
use Rattle.live_journal.specs.Ends.{end_of}
use Rattle.live_server.specs.Serving.{IsBegun, IsRefused, JournalFails}

-- a version begins a run: nothing stands behind its origin, which is the design of the documents behind their saved entries
pub record StartsRun (holds : Docs) (run : RunWords) (v : Versioned) : Type 0 where
  pub saved : List Entry
  pub begun : IsBegun holds run v.origin saved
  pub number : v.first ≡ length saved
  pub journal : v.journal ≡ []
  pub stored : v.stored.design ≡ v.origin

-- why no version begins a run: it is refused, or memory is wanting
abbrev pub IsUnheld : Docs → RunWords → ℕ → ℕ → Unbegun → Type 0
IsUnheld holds run f f' (Refused end) = IsRefused holds f f' run end.status end.text.items
IsUnheld holds run f f' Memory = ⊤

-- what stops the documents of a run is told
abbrev pub TellsStop : RunWords → Stop → Unbegun → Type 0
TellsStop run (refused_at role code place) (Refused end) =
    (end.status ≡ 3) × (end.text.items ≡ refusal_line role (record { code = code; at = place }))
TellsStop run (Missing role how) (Refused end) = (end.status ≡ 4) × (end.text.items ≡ shelf_line (name_of run role) how)
TellsStop run no_room (Refused end) = ⊥
TellsStop run stop Memory = ⊤

-- the line of a refusal, where memory was there for it
abbrev pub TellsText : ℕ → List ℕ → Unbegun → Type 0
TellsText status line (Refused end) = (end.status ≡ status) × (end.text.items ≡ line)
TellsText status line Memory = ⊤

-- the entries of the text of a saved journal behind which more may stand; none where there is no text
abbrev pub AreWholeEntries : Derates → Option (List ℕ) → Option (List Entry) → Type 0
AreWholeEntries derates None None = ⊤
AreWholeEntries derates None (Some entries) = ⊥
AreWholeEntries derates (Some text) None = ⊥
AreWholeEntries derates (Some text) (Some entries) = SaysJournal derates entries text × (end_of text ≡ Ok tt)

-- why a saved journal has no such entries: its fault, or memory is wanting
abbrev pub WholeStops : Derates → Option (List ℕ) → Stop → Type 0
WholeStops derates journal (refused_at role code place) =
    (role ≡ Journal) × IsSomeAnd journal (JournalFails derates (record { code = code; at = place }))
WholeStops derates journal (Missing role how) = ⊥
WholeStops derates journal no_room = ⊤
