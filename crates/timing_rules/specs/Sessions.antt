-- Designs at a number, legal transcripts of scripts, and the whole output of a run. `first` is the
-- first number of a run, and the journal is the list of entries, each a session with its ECO. Free are the
-- interleaving of sessions and, in a refusal, which loop or origin of an overflow is named.

use Rattle.std.specs.Prelude.{ℕ, ◌≡◌, ◌⊎◌, ◌+◌, ◌-◌, ◌<◌, ◌≤◌, zero, suc, nat_eq, Bool, true, false, IsTrue, if◌then◌else◌, List, [], ◌∷◌, ◌++◌, map, filter, length, slice_get, Option, Some, None, ⊤, IsSomeAnd}
use Rattle.std.specs.List.{Contains, cons_option}
use Rattle.timing_defs.specs.declared.design.Design.{Design}
use Rattle.timing_defs.specs.declared.edits.Eco.{Eco}
use Rattle.timing_defs.specs.declared.edits.Entry.{Entry}
use Rattle.timing_defs.specs.declared.faults.Fault.{Fault}
use Rattle.timing_defs.specs.declared.reports.Query.{Query}
use Rattle.timing_defs.specs.declared.scripts.Command.{Command}
use Rattle.timing_defs.specs.declared.scripts.Command.TheVariants.{Take, Await, Ask, Change}
use Rattle.timing_defs.specs.declared.scripts.Script.{Script}
use Rattle.timing_defs.specs.declared.scripts.Answer.{Answer}
use Rattle.timing_defs.specs.declared.scripts.Answer.TheVariants.{Taken, Reached, NotYet, Accepted, Refused, No, Told as told_answer}
use Rattle.timing_defs.specs.declared.scripts.Row.{Row}
use Rattle.timing_defs.specs.declared.scripts.Transcript.{Transcript}
use Rattle.timing_defs.specs.declared.scripts.Totals.{Totals}
use Rattle.timing_defs.specs.Output.{output_text}
use Rattle.timing_defs.specs.Saved.{saved_output_text}
use Rattle.timing_rules.specs.Checks.{Faulty, Accepts, Refuses}
use Rattle.timing_rules.specs.Questions.{Told, query_fault}
use Rattle.timing_rules.specs.Reports.{AreTotals}

-- the design after the first so many entries of the journal, each accepted in turn
abbrev pub DesignAfter : Design → List Entry → ℕ → Design → Type 0
DesignAfter initial journal zero d = d ≡ initial
DesignAfter initial journal (suc n) d =
    (before : Design) × DesignAfter initial journal n before × IsSomeAnd (slice_get journal n) (λ entry. Accepts before entry.eco d)

-- the initial design of a run that goes on from saved entries: the linked design after all of them, each accepted
-- in turn; with none the linked design itself
abbrev pub IsInitial : Design → List Entry → Design → Type 0
IsInitial linked saved d = DesignAfter linked saved (length saved) d

-- a saved entry, counted from 1, is refused at its turn: nothing is faulty in the linked design, all entries before it
-- are accepted, and it is not
abbrev pub IsRefusedEntry : Design → List Entry → ℕ → Fault → Type 0
IsRefusedEntry linked saved zero x = ⊥
IsRefusedEntry linked saved (suc n) x =
    ((y : Fault) → Faulty linked y → ⊥)
    × ((d : Design) × DesignAfter linked saved n d × IsSomeAnd (slice_get saved n) (λ entry. Refuses d entry.eco x))

-- the sort of a row, apart from what it tells
pub data Sort : Type 0 where
  taken : Sort
  reached : Sort
  not_yet : List ℕ → Sort
  accepted : Sort
  refused : Sort
  asked : Sort

abbrev pub sort_of : Answer → Sort
sort_of Taken = taken
sort_of Reached = reached
sort_of (NotYet looks) = not_yet looks
sort_of Accepted = accepted
sort_of (Refused x) = refused
sort_of (No x) = asked
sort_of (told_answer r) = asked

-- a row as the order of rows sees it: the place of its command, its number and its sort
pub record Mark : Type 0 where
  pub command : ℕ
  pub number : ℕ
  pub sort : Sort

abbrev pub mark_of : Row → Mark
mark_of row = record { command = row.command; number = row.number; sort = sort_of row.answer }

-- the numbers that a not-yet row saw: they never fall, from the number before to the row's own, and are below what is awaited
abbrev pub Looks : ℕ → ℕ → ℕ → List ℕ → Type 0
Looks before awaited last [] = before ≡ last
Looks before awaited last (n ∷ ns) = (before ≤ n) × (n < awaited) × Looks n awaited last ns

abbrev pub IsEntry : List Entry → ℕ → ℕ → ℕ → Eco → Type 0
IsEntry journal first session number eco =
    IsSomeAnd (slice_get journal (number - first - 1)) (λ entry. (entry.session ≡ session) × (entry.eco ≡ eco))

-- a row answers its command, by the number before it; `begun` tells whether a row stands before it
abbrev pub Suits : List Entry → ℕ → ℕ → Bool → ℕ → Command → ℕ → Sort → Type 0
Suits journal first session begun before Take number taken = ⊤
Suits journal first session begun before (Await awaited looks) number reached = awaited ≤ number
Suits journal first session begun before (Await awaited looks) number (not_yet numbers) =
    (length numbers ≡ looks) × (0 < looks) × Looks before awaited number numbers
Suits journal first session begun before (Change eco) number accepted =
    (before < number) × IsEntry journal first session number eco
Suits journal first session begun before (Change eco) number refused = ⊤
Suits journal first session begun before (Ask q) number asked = IsTrue begun → number ≡ before
Suits journal first session begun before command number sort = ⊥

-- the rows answer the first commands of the script, one each, in order, and their numbers never fall
abbrev pub OrderedFrom : List Entry → ℕ → ℕ → Bool → ℕ → ℕ → List Command → List Mark → Type 0
OrderedFrom journal first session begun place before commands [] = ⊤
OrderedFrom journal first session begun place before [] (row ∷ rows) = ⊥
OrderedFrom journal first session begun place before (command ∷ commands) (row ∷ rows) =
    (row.command ≡ place) × (before ≤ row.number) × (row.number ≤ first + length journal)
    × Suits journal first session begun before command row.number row.sort
    × OrderedFrom journal first session true (place + 1) row.number commands rows

abbrev pub Ordered : List Entry → ℕ → ℕ → Script → List Mark → Type 0
Ordered journal first session script rows = OrderedFrom journal first session false 1 first script.commands rows

-- a report at a number holds what the design at that number gives, be it a report or why there is none
abbrev pub IsTrueAnswer : Design → Command → Answer → Type 0
IsTrueAnswer d (Ask q) (told_answer r) = Told d q r
IsTrueAnswer d (Ask q) (No x) = query_fault d q ≡ Some x
IsTrueAnswer d (Change eco) (Refused x) = Refuses d eco x
IsTrueAnswer d command answer = ⊤

abbrev pub query_of : Command → Option Query
query_of (Ask q) = Some q
query_of Take = None
query_of (Await number looks) = None
query_of (Change eco) = None

abbrev pub IsTrueRow : Design → List Entry → ℕ → Command → Row → Type 0
IsTrueRow initial journal first command row =
    (row.query ≡ query_of command)
    × ((d : Design) × DesignAfter initial journal (row.number - first) d × IsTrueAnswer d command row.answer)

abbrev pub AreTrue : Design → List Entry → ℕ → List Command → List Row → Type 0
AreTrue initial journal first [] [] = ⊤
AreTrue initial journal first [] (row ∷ rows) = ⊥
AreTrue initial journal first (command ∷ commands) [] = ⊥
AreTrue initial journal first (command ∷ commands) (row ∷ rows) =
    IsTrueRow initial journal first command row × AreTrue initial journal first commands rows

-- a transcript is legal: its rows are ordered, there is one for each command, and what they hold is true
abbrev pub Legal : Design → List Entry → ℕ → ℕ → Script → Transcript → Type 0
Legal initial journal first session script t =
    Ordered journal first session script (map mark_of t.rows) × AreTrue initial journal first script.commands t.rows

-- the ECOs of a session in the journal, and those of its accepted rows
abbrev pub ecos_of : ℕ → List Entry → List Eco
ecos_of session journal = map (λ entry. entry.eco) (filter (λ entry. nat_eq entry.session session) journal)

abbrev pub accepted_eco : Command → Answer → Option Eco
accepted_eco (Change eco) Accepted = Some eco
accepted_eco command answer = None

abbrev pub accepted_ecos : List Command → List Row → List Eco
accepted_ecos [] rows = []
accepted_ecos (command ∷ commands) [] = []
accepted_ecos (command ∷ commands) (row ∷ rows) =
    cons_option (accepted_eco command row.answer) (accepted_ecos commands rows)

-- the entries that a session adds to the journal: the ECOs of its accepted rows, in order
abbrev pub entry_by : ℕ → Eco → Entry
entry_by session eco = record { session = session; eco = eco }

abbrev pub added_entries : ℕ → List Command → List Row → List Entry
added_entries session commands rows = map (entry_by session) (accepted_ecos commands rows)

-- the numbers that a row shows of its session's looks at the newest version: its own where it was taken, reached or
-- refused, or is a report and the first row; the one before an accepted row's; those of a row that is not yet
abbrev pub shown_looks : Bool → ℕ → Sort → List ℕ
shown_looks begun number taken = number ∷ []
shown_looks begun number reached = number ∷ []
shown_looks begun number (not_yet looks) = looks
shown_looks begun number accepted = (number - 1) ∷ []
shown_looks begun number refused = number ∷ []
shown_looks begun number asked = (if begun then [] else number ∷ [])

-- those of all rows, in order; `begun` tells whether a row stands before
abbrev pub row_looks : Bool → List Row → List ℕ
row_looks begun [] = []
row_looks begun (row ∷ rows) = shown_looks begun row.number (sort_of row.answer) ++ row_looks true rows

-- numbers stand in a list, at distinct places and in order; free is what stands between them
abbrev pub StandIn : List ℕ → List ℕ → Type 0
StandIn [] ys = ⊤
StandIn (x ∷ xs) [] = ⊥
StandIn (x ∷ xs) (y ∷ ys) = ((x ≡ y) × StandIn xs ys) ⊎ StandIn (x ∷ xs) ys

-- a list of looks grew by some in which these numbers stand
abbrev pub GrewBy : List ℕ → List ℕ → List ℕ → Type 0
GrewBy old new numbers = (grown : List ℕ) × (new ≡ old ++ grown) × StandIn numbers grown

abbrev pub AreLegal : Design → List Entry → ℕ → ℕ → List Script → List Transcript → Type 0
AreLegal initial journal first session [] [] = ⊤
AreLegal initial journal first session [] (t ∷ ts) = ⊥
AreLegal initial journal first session (script ∷ scripts) [] = ⊥
AreLegal initial journal first session (script ∷ scripts) (t ∷ ts) =
    Legal initial journal first session script t
    × (ecos_of session journal ≡ accepted_ecos script.commands t.rows)
    × AreLegal initial journal first (session + 1) scripts ts

-- the whole output of a journal and transcripts: each is legal for its script, the entries of a
-- session are its accepted rows in order, each entry names a session of the run, and all are accepted
-- in turn
abbrev pub IsWhole : Design → ℕ → List Script → List Entry → List Transcript → Type 0
IsWhole initial first scripts journal ts =
    AreLegal initial journal first 1 scripts ts
    × ((entry : Entry) → Contains journal entry → (1 ≤ entry.session) × (entry.session ≤ length scripts))
    × ((d : Design) × DesignAfter initial journal (length journal) d)

-- the bytes of a run: journal, transcripts and the totals of the last design
abbrev pub IsOutput : Design → ℕ → List Entry → List Transcript → List ℕ → Type 0
IsOutput initial first journal ts bytes =
    (d : Design) × (totals : Totals)
    × DesignAfter initial journal (length journal) d
    × AreTotals d (first + length journal) totals
    × (bytes ≡ output_text journal ts d.constraints.clocks totals)

-- the same of a run that goes on from saved entries, of which there are `first`
abbrev pub IsSavedOutput : Design → ℕ → List Entry → List Transcript → List ℕ → Type 0
IsSavedOutput initial first journal ts bytes =
    (d : Design) × (totals : Totals)
    × DesignAfter initial journal (length journal) d
    × AreTotals d (first + length journal) totals
    × (bytes ≡ saved_output_text first d.constraints.derates journal ts d.constraints.clocks totals)
