-- The documents of a run: in which order they are fetched and read, what they say, and what stops that.

use Rattle.std.specs.Prelude.{◌≡◌, ◌<◌, ◌≤◌, ◌⊎◌, ℕ, ◌+◌, ◌-◌, Bool, true, false, if◌then◌else◌, List, [], ◌∷◌, ◌++◌, codes, decimal, length, get_or, unwrap_or, Option, Some, None, Result, Ok, Err, ⊤}
use Rattle.std.specs.Str.{bytes_eq}
use Rattle.sta_outside.specs.Shelf.{document_limit, Told, Lacks, Reaches, Rose}
use Rattle.timing_defs.specs.declared.library.Library.{Library}
use Rattle.timing_defs.specs.declared.library.Units.{Units}
use Rattle.timing_defs.specs.declared.netlist.Module.{Module}
use Rattle.timing_defs.specs.declared.constraints.Constraints.{Constraints}
use Rattle.timing_defs.specs.declared.constraints.Derates.{Derates}
use Rattle.timing_defs.specs.declared.parasitics.Parasitics.{Parasitics}
use Rattle.timing_defs.specs.declared.edits.Entry.{Entry}
use Rattle.timing_defs.specs.declared.scripts.Script.{Script}
use Rattle.timing_defs.specs.declared.faults.Fault.{Fault}
use Rattle.timing_defs.specs.declared.codes.ReadFault.{ReadFault}
use Rattle.timing_defs.specs.declared.codes.ReadFault.TheVariants.{At, Memory as no_memory}
use Rattle.timing_defs.specs.Codes.{code_text}
use Rattle.timing_defs.specs.Output.{line, word, number, fault_text}
use Rattle.sta_text.specs.declared.faults.Wrong.{Wrong}
use Rattle.sta_text.specs.Faults.{least_from}
use Rattle.liberty_cells.specs.Faults.{library_of_text, units_of_text}
use Rattle.liberty_cells.specs.Faults.{faults_of as library_faults}
use Rattle.verilog_netlist.specs.Grammar.{events_of as netlist_events}
use Rattle.verilog_netlist.specs.Faults.{faults_of as netlist_faults}
use Rattle.verilog_netlist.specs.Modules.{module_of}
use Rattle.sdc_reader.specs.Grammar.{events_of as sdc_events}
use Rattle.sdc_reader.specs.Faults.{faults_of as sdc_faults}
use Rattle.sdc_reader.specs.Meaning.{constraints_of}
use Rattle.spef_reader.specs.Grammar.{events_of as spef_events}
use Rattle.spef_reader.specs.Faults.{faults_of as spef_faults}
use Rattle.spef_reader.specs.Parasitics.{parasitics_of}
use Rattle.eco_journal.specs.Lines.{lines_of}
use Rattle.eco_journal.specs.Journal.{saved_of}
use Rattle.script_reader.specs.Scripts.{outside, events, script_of}
use Rattle.script_reader.specs.Scripts.{faults as line_faults}
use Rattle.command_words.specs.Asked.{RunWords}
use Rattle.shell_core.specs.declared.documents.Role.{Role}
use Rattle.shell_core.specs.declared.documents.Role.TheVariants.{Early, Late, Netlist, Sdc, Spef, Journal, Session}
use Rattle.shell_core.specs.declared.documents.Stop.{Stop}
use Rattle.shell_core.specs.declared.documents.Stop.TheVariants.{Refused, Missing, Memory}
use Rattle.shell_core.specs.declared.documents.How.{How}
use Rattle.shell_core.specs.declared.documents.How.TheVariants.{Failed, Absent, TooLong}
use Rattle.shell_core.specs.declared.documents.Documents.{Documents}

-- how a document is called in a line of fault: by its kind, and a script with the number of its session
abbrev pub kind_text : Role → List ℕ
kind_text Early = codes "early"
kind_text Late = codes "late"
kind_text Netlist = codes "netlist"
kind_text Sdc = codes "sdc"
kind_text Spef = codes "spef"
kind_text Journal = codes "journal"
kind_text (Session number) = codes "script"

abbrev pub number_text : Role → List ℕ
number_text Early = []
number_text Late = []
number_text Netlist = []
number_text Sdc = []
number_text Spef = []
number_text Journal = []
number_text (Session number) = decimal number

abbrev pub role_text : Role → List ℕ
role_text role = kind_text role ++ number_text role

abbrev pub how_text : How → List ℕ
how_text Failed = codes "failed"
how_text Absent = codes "absent"
how_text TooLong = codes "too_long"

abbrev pub words_line : List ℕ
words_line = line (codes "fault words")

abbrev pub design_line : Fault → List ℕ
design_line x = line (codes "fault design" ++ word (fault_text x))

-- a saved entry, counted from 1, that is refused
abbrev pub entry_line : ℕ → Fault → List ℕ
entry_line entry x = line (codes "fault journal J4" ++ number entry ++ word (fault_text x))

abbrev pub refusal_line : Role → Wrong → List ℕ
refusal_line role wrong = line (codes "fault" ++ word (role_text role) ++ word (code_text wrong.code) ++ number wrong.at)

abbrev pub shelf_line : List ℕ → How → List ℕ
shelf_line name how = line (codes "fault shelf" ++ word name ++ word (how_text how))

-- the name that a command line has for a document; sessions count from 1
abbrev pub name_of : RunWords → Role → List ℕ
name_of run Early = run.early
name_of run Late = run.late
name_of run Netlist = run.netlist
name_of run Sdc = run.sdc
name_of run Spef = run.spef
name_of run Journal = unwrap_or run.journal []
name_of run (Session number) = get_or run.scripts (number - 1) []

-- the documents in the order in which they are fetched and read; the word `none` stands for no parasitics
abbrev pub has_no_spef : RunWords → Bool
has_no_spef run = bytes_eq run.spef (codes "none")

-- the scripts of sessions, of which the first has the number n
abbrev pub script_sources : ℕ → List (List ℕ) → List Role
script_sources n [] = []
script_sources n (name ∷ names) = Session n ∷ script_sources (n + 1) names

-- behind a saved journal, where the words name one
abbrev pub behind_journal : Option (List ℕ) → List Role → List Role
behind_journal None roles = roles
behind_journal (Some name) roles = Journal ∷ roles

abbrev pub journal_sources : RunWords → List Role
journal_sources run = behind_journal run.journal (script_sources 1 run.scripts)

abbrev pub last_sources : RunWords → List Role
last_sources run = (if has_no_spef run then journal_sources run else Spef ∷ journal_sources run)

abbrev pub sources : RunWords → List Role
sources run = Early ∷ Late ∷ Netlist ∷ Sdc ∷ last_sources run

abbrev pub Docs : Type 0
Docs = Option (List (List ℕ × List ℕ))

-- the shelf tells a document of this text, within the limit
abbrev pub Gives : Docs → List ℕ → List ℕ → Type 0
Gives docs name text = Told docs name text × (length text ≤ document_limit)

-- the units of the late library
abbrev pub AreUnits : Docs → RunWords → Units → Type 0
AreUnits docs run units = (late : List ℕ) × Gives docs run.late late × (units ≡ units_of_text late)

abbrev pub constraint_faults : Units → List ℕ → List Wrong
constraint_faults units text = sdc_faults (length text) units (sdc_events text)

-- the shelf tells a text under a name, which says something
abbrev pub Says : Docs → List ℕ → (List ℕ → Type 0) → Type 0
Says docs name Says_it = (text : List ℕ) × Gives docs name text × Says_it text

-- what a text of constraints without faults says
abbrev pub constraints_said : Units → List ℕ → Constraints
constraints_said units text = constraints_of units (sdc_events text)

abbrev pub SaysConstraints : Units → Constraints → List ℕ → Type 0
SaysConstraints units c text = (constraint_faults units text ≡ []) × (c ≡ constraints_said units text)

-- the constraints, in the units of the late library
abbrev pub AreConstraints : Docs → RunWords → Constraints → Type 0
AreConstraints docs run c = (units : Units) × AreUnits docs run units × Says docs run.sdc (SaysConstraints units c)

-- the fault of a saved journal, if any
abbrev pub fault_told : Result (List Entry) ReadFault → List Wrong
fault_told (Ok entries) = []
fault_told (Err (At code place)) = record { code = code; at = place } ∷ []
fault_told (Err no_memory) = []

abbrev pub journal_faults : Derates → List ℕ → List Wrong
journal_faults derates text = fault_told (saved_of text derates)

-- the faults of a text as the document of a role; constraints are read in the units of the late library, and a saved journal
-- by the factors of the constraints
abbrev pub HasFaults : Docs → RunWords → Role → List ℕ → List Wrong → Type 0
HasFaults docs run Early text faults = library_faults text ≡ faults
HasFaults docs run Late text faults = library_faults text ≡ faults
HasFaults docs run Netlist text faults = netlist_faults (netlist_events text) ≡ faults
HasFaults docs run Sdc text faults = (units : Units) × AreUnits docs run units × (constraint_faults units text ≡ faults)
HasFaults docs run Spef text faults = spef_faults (spef_events text) ≡ faults
HasFaults docs run Journal text faults = (c : Constraints) × AreConstraints docs run c × (journal_faults c.derates text ≡ faults)
HasFaults docs run (Session number) text faults = line_faults 0 outside (events 1 (lines_of text)) ≡ faults

-- a document that is there, and without a fault
abbrev pub IsRead : Docs → RunWords → Role → Type 0
IsRead docs run role = (text : List ℕ) × Gives docs (name_of run role) text × HasFaults docs run role text []

-- a document that is there, and whose fault of least place this is
abbrev pub IsRefused : Docs → RunWords → Role → Wrong → Type 0
IsRefused docs run role wrong =
    (text : List ℕ) × (faults : List Wrong) × Gives docs (name_of run role) text × HasFaults docs run role text faults
    × (least_from None faults ≡ Some wrong)

-- the first document that has a fault, all before it being read
abbrev pub FirstRefused : Docs → RunWords → List Role → Role → Wrong → Type 0
FirstRefused docs run [] refused wrong = ⊥
FirstRefused docs run (role ∷ roles) refused wrong =
    ((refused ≡ role) × IsRefused docs run role wrong) ⊎ (IsRead docs run role × FirstRefused docs run roles refused wrong)

-- why the shelf did not give a document; its count of faults rose only where it failed
abbrev pub FetchFails : Docs → ℕ → ℕ → List ℕ → How → Type 0
FetchFails docs old new name Failed = Rose old new
FetchFails docs old new name Absent = Lacks docs name × (new ≡ old)
FetchFails docs old new name TooLong = (seen : ℕ) × (document_limit < seen) × Reaches docs name seen × (new ≡ old)

-- a document that the shelf did not give, all before it being read
abbrev pub ShelfFails : Docs → RunWords → ℕ → ℕ → List Role → Role → How → Type 0
ShelfFails docs run old new [] missing how = ⊥
ShelfFails docs run old new (role ∷ roles) missing how =
    ((missing ≡ role) × FetchFails docs old new (name_of run role) how)
    ⊎ (IsRead docs run role × ShelfFails docs run old new roles missing how)

-- why the reading of these documents stops
abbrev pub Stops : Docs → RunWords → ℕ → ℕ → List Role → Stop → Type 0
Stops docs run old new roles (Refused role code place) =
    FirstRefused docs run roles role (record { code = code; at = place }) × (new ≡ old)
Stops docs run old new roles (Missing role how) = ShelfFails docs run old new roles role how
Stops docs run old new roles Memory = ⊤

-- what a text without faults says
abbrev pub SaysLibrary : Library → List ℕ → Type 0
SaysLibrary library text = (library_faults text ≡ []) × (library ≡ library_of_text text)

abbrev pub SaysModule : Module → List ℕ → Type 0
SaysModule m text = (netlist_faults (netlist_events text) ≡ []) × (module_of (netlist_events text) ≡ Some m)

abbrev pub SaysParasitics : Parasitics → List ℕ → Type 0
SaysParasitics p text = (spef_faults (spef_events text) ≡ []) × (p ≡ parasitics_of (spef_events text))

abbrev pub SaysJournal : Derates → List Entry → List ℕ → Type 0
SaysJournal derates entries text = saved_of text derates ≡ Ok entries

abbrev pub SaysScript : Script → List ℕ → Type 0
SaysScript script text = script_of text ≡ Ok script

abbrev pub no_parasitics : Parasitics
no_parasitics = record { nets = [] }

-- the parasitics, or none
abbrev pub AreParasitics : Docs → RunWords → Parasitics → Type 0
AreParasitics docs run p =
    ((has_no_spef run ≡ true) × (p ≡ no_parasitics))
    ⊎ ((has_no_spef run ≡ false) × Says docs run.spef (SaysParasitics p))

-- the entries of the saved journal, and none where no journal is named
abbrev pub AreSaved : Docs → Option (List ℕ) → Derates → Option (List Entry) → Type 0
AreSaved docs None derates None = ⊤
AreSaved docs None derates (Some entries) = ⊥
AreSaved docs (Some name) derates None = ⊥
AreSaved docs (Some name) derates (Some entries) = Says docs name (SaysJournal derates entries)

-- the scripts, one for each name in order
abbrev pub SayScripts : Docs → List (List ℕ) → List Script → Type 0
SayScripts docs [] [] = ⊤
SayScripts docs [] (script ∷ scripts) = ⊥
SayScripts docs (name ∷ names) [] = ⊥
SayScripts docs (name ∷ names) (script ∷ scripts) = Says docs name (SaysScript script) × SayScripts docs names scripts

-- the values of the documents of a run
abbrev pub AreLast : Docs → RunWords → Derates → Parasitics → Option (List Entry) → List Script → Type 0
AreLast docs run derates p saved scripts =
    AreParasitics docs run p × AreSaved docs run.journal derates saved × SayScripts docs run.scripts scripts

abbrev pub AreDocuments : Docs → RunWords → Documents → Type 0
AreDocuments docs run d =
    Says docs run.early (SaysLibrary d.early)
    × Says docs run.late (SaysLibrary d.late)
    × Says docs run.netlist (SaysModule d.netlist)
    × AreConstraints docs run d.sdc
    × AreLast docs run d.sdc.derates d.spef d.saved d.scripts
