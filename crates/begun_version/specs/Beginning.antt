-- How a run begins whose documents were read: with the design behind its saved entries, or with the line of a refusal.

use Rattle.std.specs.Prelude.{◌≡◌, ◌⊎◌, ℕ, List, [], Option, Some, None, Result, Ok, Err, ⊤}
use Rattle.timing_defs.specs.declared.edits.Entry.{Entry}
use Rattle.timing_defs.specs.declared.faults.Fault.{Fault}
use Rattle.timing_defs.specs.declared.design.Design.{Design}
use Rattle.timing_defs.specs.Edits.{linked}
use Rattle.timing_rules.specs.Checks.{Faulty}
use Rattle.timing_rules.specs.Sessions.{IsInitial, IsRefusedEntry}
use Rattle.eco_analysis.specs.Soundness.{IsFaultless}
use Rattle.shell_core.specs.declared.documents.DesignDocuments.{DesignDocuments}
use Rattle.shell_core.specs.Documents.{design_line, entry_line}
use Rattle.begun_version.specs.declared.beginning.Unbegun.{Unbegun}
use Rattle.begun_version.specs.declared.beginning.Unbegun.TheVariants.{Refused, Memory}

-- the saved entries; none without a saved journal
abbrev pub entries_in : Option (List Entry) → List Entry
entries_in None = []
entries_in (Some saved) = saved

-- the design of documents
abbrev pub linked_of : DesignDocuments → Result Design Fault
linked_of docs = linked docs.early docs.late docs.netlist docs.sdc docs.spef

-- a linked design begins with this one: nothing is faulty in it, and each saved entry is accepted at its turn
abbrev pub BeginsOver : Design → Option (List Entry) → Design → Type 0
BeginsOver linked saved initial = IsFaultless linked × IsInitial linked (entries_in saved) initial

-- why a linked design does not begin, and the line of it: a fault of the design, or the first saved entry that is refused
abbrev pub IsRefusedOver : Design → Option (List Entry) → List ℕ → Type 0
IsRefusedOver linked saved line =
    ((x : Fault) × Faulty linked x × (line ≡ design_line x))
    ⊎ ((entry : ℕ) × (x : Fault) × IsRefusedEntry linked (entries_in saved) entry x × (line ≡ entry_line entry x))

-- documents and saved entries begin with this design
abbrev pub BeginsWith : DesignDocuments → Option (List Entry) → Design → Type 0
BeginsWith docs saved initial = (d : Design) × (linked_of docs ≡ Ok d) × BeginsOver d saved initial

-- why documents and saved entries do not begin, and the line of it: the fault of linking them, or that of their design
abbrev pub IsRefusedBy : DesignDocuments → Option (List Entry) → List ℕ → Type 0
IsRefusedBy docs saved line =
    ((x : Fault) × (linked_of docs ≡ Err x) × (line ≡ design_line x))
    ⊎ ((d : Design) × (linked_of docs ≡ Ok d) × IsRefusedOver d saved line)

-- a run that does not begin ends with status 3 and the line of its refusal; or memory is wanting
abbrev pub IsUnbegun : DesignDocuments → Option (List Entry) → Unbegun → Type 0
IsUnbegun docs saved (Refused end) = (end.status ≡ 3) × IsRefusedBy docs saved end.text.items
IsUnbegun docs saved Memory = ⊤
