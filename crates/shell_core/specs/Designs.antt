-- The documents that a design is linked from, and a saved journal that is fetched behind them and not yet read.

use Rattle.std.specs.Prelude.{◌≡◌, ℕ, if◌then◌else◌, List, [], ◌∷◌, ◌++◌, Option, Some, None, ⊤, IsSomeAnd}
use Rattle.timing_defs.specs.declared.constraints.Derates.{Derates}
use Rattle.timing_defs.specs.declared.edits.Entry.{Entry}
use Rattle.sta_text.specs.Faults.{least_from}
use Rattle.command_words.specs.Asked.{RunWords}
use Rattle.shell_core.specs.declared.documents.Role.{Role}
use Rattle.shell_core.specs.declared.documents.Role.TheVariants.{Early, Late, Netlist, Sdc, Spef, Journal}
use Rattle.shell_core.specs.declared.documents.Stop.{Stop}
use Rattle.shell_core.specs.declared.documents.Stop.TheVariants.{Refused, Missing, Memory}
use Rattle.shell_core.specs.declared.documents.DesignDocuments.{DesignDocuments}
use Rattle.shell_core.specs.declared.documents.ReadDesign.{ReadDesign}
use Rattle.shell_core.specs.Documents.{Docs, has_no_spef, behind_journal, journal_faults, Gives, Says, SaysLibrary, SaysModule, SaysJournal, AreConstraints, AreParasitics, FirstRefused, ShelfFails}

-- the parasitics, where the words name them
abbrev pub spef_sources : RunWords → List Role
spef_sources run = (if has_no_spef run then [] else Spef ∷ [])

-- the documents of a design, in the order in which they are fetched and read
abbrev pub design_sources : RunWords → List Role
design_sources run = Early ∷ Late ∷ Netlist ∷ Sdc ∷ spef_sources run

-- the saved journal, where the words name one
abbrev pub fetched_journal : RunWords → List Role
fetched_journal run = behind_journal run.journal []

-- the values of the documents of a design
abbrev pub AreDesign : Docs → RunWords → DesignDocuments → Type 0
AreDesign docs run d =
    Says docs run.early (SaysLibrary d.early)
    × Says docs run.late (SaysLibrary d.late)
    × Says docs run.netlist (SaysModule d.netlist)
    × AreConstraints docs run d.sdc
    × AreParasitics docs run d.spef

-- the text of the saved journal, and none where no journal is named
abbrev pub IsFetched : Docs → Option (List ℕ) → Option (List ℕ) → Type 0
IsFetched docs None None = ⊤
IsFetched docs None (Some text) = ⊥
IsFetched docs (Some name) None = ⊥
IsFetched docs (Some name) (Some text) = Gives docs name text

-- the documents of a design, with that text
abbrev pub IsReadDesign : Docs → RunWords → ReadDesign → Type 0
IsReadDesign docs run got = AreDesign docs run got.design × IsFetched docs run.journal got.journal

-- nothing that was read has a fault: the shelf did not give a document, or memory is wanting
abbrev pub IsNoFault : Stop → Type 0
IsNoFault (Refused role code place) = ⊥
IsNoFault (Missing role how) = ⊤
IsNoFault Memory = ⊤

-- why a design and the text of a saved journal are not there: a document of the design has the first fault, all before it
-- being read; or the shelf did not give one of them or the journal; or memory is wanting
abbrev pub DesignStops : Docs → RunWords → ℕ → ℕ → Stop → Type 0
DesignStops docs run old new (Refused role code place) =
    FirstRefused docs run (design_sources run) role (record { code = code; at = place }) × (new ≡ old)
DesignStops docs run old new (Missing role how) = ShelfFails docs run old new (design_sources run ++ fetched_journal run) role how
DesignStops docs run old new Memory = ⊤

-- the entries of the text of a saved journal, by the factors of the constraints; none where there is no text
abbrev pub AreEntriesOf : Derates → Option (List ℕ) → Option (List Entry) → Type 0
AreEntriesOf derates None None = ⊤
AreEntriesOf derates None (Some entries) = ⊥
AreEntriesOf derates (Some text) None = ⊥
AreEntriesOf derates (Some text) (Some entries) = SaysJournal derates entries text

-- why the text of a saved journal has no entries: its fault, or memory is wanting
abbrev pub JournalStops : Derates → Option (List ℕ) → Stop → Type 0
JournalStops derates journal (Refused role code place) =
    (role ≡ Journal)
    × IsSomeAnd journal (λ text. least_from None (journal_faults derates text) ≡ Some (record { code = code; at = place }))
JournalStops derates journal (Missing role how) = ⊥
JournalStops derates journal Memory = ⊤
