-- What a generated run writes.

use Rattle.std.specs.Prelude.{◌≡◌, ℕ, List, length, Ok}
use Rattle.timing_defs.specs.declared.edits.Entry.{Entry}
use Rattle.timing_defs.specs.declared.design.Design.{Design}
use Rattle.timing_defs.specs.declared.scripts.Script.{Script}
use Rattle.timing_defs.specs.declared.scripts.Transcript.{Transcript}
use Rattle.timing_defs.specs.declared.scripts.Totals.{Totals}
use Rattle.timing_defs.specs.Output.{generated_text}
use Rattle.timing_rules.specs.Reports.{AreTotals}
use Rattle.timing_rules.specs.Sessions.{DesignAfter, IsWhole}
use Rattle.eco_analysis.specs.Soundness.{IsFaultless}
use Rattle.session_engine.specs.Versions.{Versioned}
use Rattle.shell_core.specs.declared.documents.Documents.{Documents}
use Rattle.design_maker.specs.Sessions.{scripts_of}
use Rattle.generated_runs.specs.Generated.{generated_documents}
use Rattle.order_laws.specs.Orders.{edited_by_scripts}
use Rattle.shell_session.specs.Linking.{linked_of}

-- the line of a design in which so many edits were accepted: its totals
abbrev pub IsLineOf : Design → ℕ → ℕ → List ℕ → Type 0
IsLineOf d gates edits text = (totals : Totals) × AreTotals d edits totals × (text ≡ generated_text gates edits edits totals)

-- the line of sessions that left this version, an entry for each edit
abbrev pub IsLineLeft : Versioned → ℕ → ℕ → List ℕ → Type 0
IsLineLeft v gates edits text = (v.number ≡ edits) × IsLineOf v.stored.design gates edits text

-- scripts over a design were answered, with an entry for each edit, and this is the line of the design behind all entries
abbrev pub IsWholeLine : Design → List Script → ℕ → ℕ → List ℕ → Type 0
IsWholeLine d scripts gates edits text =
    (journal : List Entry) × (ts : List Transcript) × (last : Design)
    × IsWhole d 0 scripts journal ts × (length journal ≡ edits) × DesignAfter d journal (length journal) last × IsLineOf last gates edits text

-- the line of documents that are linked to a design without a fault
abbrev pub IsDocumentsLine : Documents → ℕ → ℕ → List ℕ → Type 0
IsDocumentsLine docs gates edits text =
    (d : Design) × (linked_of docs ≡ Ok d) × IsFaultless d × IsWholeLine d docs.scripts gates edits text

-- the line of a generated run: that of the design that the generated documents are linked to, which has no fault, after all edits of
-- the scripts, those of the first session first; its sessions were answered with an entry for each edit, so each was accepted
abbrev pub IsSummary : ℕ → ℕ → ℕ → List ℕ → Type 0
IsSummary start gates edits text =
    (d : Design) × (last : Design)
    × (linked_of (generated_documents start gates edits) ≡ Ok d) × IsFaultless d
    × (edited_by_scripts d (scripts_of start gates edits) ≡ Ok last) × IsLineOf last gates edits text
    × IsWholeLine d (scripts_of start gates edits) gates edits text
