-- The law of the core: what every run keeps.

use Rattle.std.specs.Prelude.{◌≡◌, ℕ, suc, ◌≤◌, List, [], ◌∷◌, length, map, slice_get, All, Option, Some, None}
use Rattle.std.specs.List.{cons_option}
use Rattle.timing_defs.specs.declared.edits.Eco.{Eco}
use Rattle.timing_defs.specs.declared.edits.Entry.{Entry}
use Rattle.timing_defs.specs.declared.scripts.Command.{Command}
use Rattle.timing_defs.specs.declared.scripts.Command.TheVariants.{Change}
use Rattle.timing_defs.specs.declared.scripts.Script.{Script}
use Rattle.timing_rules.specs.Sessions.{Sort, taken, reached, not_yet, accepted, refused, asked, Mark, Ordered, ecos_of}
use Rattle.session_core.specs.declared.events.Event.{Event}
use Rattle.session_core.specs.declared.rows.CoreRow.{CoreRow}
use Rattle.session_core.specs.declared.rows.CoreSession.{CoreSession}
use Rattle.session_core.specs.declared.rows.RowSort.{RowSort}
use Rattle.session_core.specs.declared.rows.RowSort.TheVariants.{Taken, Reached, NotYet, Accepted, Refused, Asked}
use Rattle.session_core.specs.Machine.{State, opening, after_all}

-- the sort of a row, in the words of legal transcripts
abbrev pub sort_of_row : RowSort → Sort
sort_of_row Taken = taken
sort_of_row Reached = reached
sort_of_row (NotYet looks) = not_yet looks
sort_of_row Accepted = accepted
sort_of_row Refused = refused
sort_of_row Asked = asked

-- a row as the order of rows sees it
abbrev pub mark_of_row : CoreRow → Mark
mark_of_row row = record { command = row.command; number = row.number; sort = sort_of_row row.sort }

-- the ECO of an accepted row
abbrev pub accepted_by : Command → RowSort → Option Eco
accepted_by (Change eco) Accepted = Some eco
accepted_by command sort = None

-- the ECOs of the accepted rows, in order
abbrev pub accepted_of : List Command → List CoreRow → List Eco
accepted_of [] rows = []
accepted_of (command ∷ commands) [] = []
accepted_of (command ∷ commands) (row ∷ rows) = cons_option (accepted_by command row.sort) (accepted_of commands rows)

-- a session, by its number: its rows are ordered for its script, and its entries are its accepted rows in order
abbrev pub IsLawful : List Entry → ℕ → ℕ → Script → CoreSession → Type 0
IsLawful entries first session script t =
    Ordered entries first session script (map mark_of_row t.rows)
    × (ecos_of session entries ≡ accepted_of script.commands t.rows)

-- so is every session, and every entry is of one of them
abbrev pub AreLawful : State → Type 0
AreLawful s =
    ((place : ℕ) (script : Script) (t : CoreSession) → slice_get s.scripts place ≡ Some script → slice_get s.sessions place ≡ Some t
    → IsLawful s.entries s.first (suc place) script t)
    × All (λ entry. (1 ≤ entry.session) × (entry.session ≤ length s.scripts)) s.entries

-- some events lead to the state from its scripts alone
abbrev pub IsReached : State → Type 0
IsReached s = (events : List Event) × (s ≡ after_all (opening s.first s.scripts) events)
