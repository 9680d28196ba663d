-- One session of several: the scripts that can be run, the rows of the commands so far, and what a whole script's run
-- adds to the view of its seat.

use Rattle.std.specs.Prelude.{ℕ, ◌≡◌, ◌+◌, ◌≤◌, nat_le, Bool, true, false, ◌||◌, ◌&&◌, IsTrue, if◌then◌else◌, List, [], ◌∷◌, ◌++◌, map, length, Option, Some}
use Rattle.std.specs.List.{list_all}
use mathlib.Core.List.{IsPrefix}
use Rattle.timing_defs.specs.declared.design.Design.{Design}
use Rattle.timing_defs.specs.declared.reports.Query.{Query}
use Rattle.timing_defs.specs.declared.reports.Query.TheVariants.{Through, Paths, WhatIf', Advise, Closing}
use Rattle.timing_defs.specs.declared.scripts.Command.{Command}
use Rattle.timing_defs.specs.declared.scripts.Command.TheVariants.{Take, Await, Ask, Change}
use Rattle.timing_defs.specs.declared.scripts.Script.{Script}
use Rattle.timing_defs.specs.declared.scripts.Row.{Row}
use Rattle.timing_defs.specs.declared.scripts.Transcript.{Transcript}
use Rattle.timing_defs.specs.Documents.{is_eco, is_count, is_closing, is_draft_trial}
use Rattle.timing_defs.specs.Trials.{trials_in}
use Rattle.timing_defs.specs.Documents.{is_plain}
use Rattle.timing_rules.specs.Sessions.{OrderedFrom, AreTrue, Legal, GrewBy, mark_of, row_looks, added_entries}
use Rattle.session_engine.specs.Versions.{Versioned}
use Rattle.session_engine.specs.Looking.{Sight}

-- a question beyond the plain ones: the worst path through 1 to 16 pins, 1 to 100 worst paths, 1 to 100 trials on a
-- draft, 1 to 100 candidates of a resize, or one that closing timing needs
abbrev pub is_further : Query → Bool
is_further (Through pin kind pins) = is_count 16 (length pins)
is_further (Paths pin kind count) = is_count 100 count
is_further (WhatIf' shape trials) = is_count 100 (length (trials_in trials)) && list_all is_draft_trial (trials_in trials)
is_further (Advise kind candidates) = is_count 100 (length candidates)
is_further (Closing query) = is_closing query
is_further q = false

-- a command that is answered: it waits with a look at least, asks a plain or a further question, or has an ECO of its form
abbrev pub is_runnable : Command → Bool
is_runnable Take = true
is_runnable (Await number looks) = nat_le 1 looks
is_runnable (Ask q) = is_plain q || is_further q
is_runnable (Change eco) = is_eco eco

-- a script of such commands, at most 10,000
pub record IsRunnable (script : Script) : Type 0 where
  pub commands : list_all is_runnable script.commands ≡ true
  pub few : length script.commands ≤ 10000

-- a row stands, behind these rows
abbrev pub begun_after : Bool → List Row → Bool
begun_after begun [] = begun
begun_after begun (row ∷ rows) = begun_after true rows

-- the number of the last row, or the one before all
abbrev pub last_number : ℕ → List Row → ℕ
last_number before [] = before
last_number before (row ∷ rows) = last_number row.number rows

-- the rows of the first commands, where the view of the seat was `v` at the start and is `w` now, and the session holds
-- the version `held`: its first taking shows in the looks until a row stands
pub record IsRun (origin : Design) (first who : ℕ) (v : Sight) (commands : List Command) (w : Sight) (held : Versioned) (rows : List Row) : Type 0 where
  pub ordered : OrderedFrom w.seen first who false 1 first commands (map mark_of rows)
  pub told : AreTrue origin w.seen first commands rows
  pub mine : w.mine ≡ v.mine ++ added_entries who commands rows
  pub low : last_number first rows ≤ held.number
  pub last : IsTrue (begun_after false rows) → last_number first rows ≡ held.number
  pub looks : GrewBy v.looks w.looks (row_looks false rows ++ (if begun_after false rows then [] else held.number ∷ []))

-- a command's row goes on with each run: where a session has run some commands and holds a version, with the command and its
-- row at its place it has run one more, and holds the version after
abbrev pub RunsOn : ℕ → Sight → Versioned → ℕ → Command → Sight → Versioned → Row → Type 0
RunsOn who w held place command x after row =
    (origin : Design) (first : ℕ) (v : Sight) (commands : List Command) (rows : List Row)
    → w.first ≡ first → w.origin ≡ Some origin → place ≡ length commands + 1 → IsRun origin first who v commands w held rows
    → IsRun origin first who v (commands ++ command ∷ []) x after (rows ++ row ∷ [])

-- a script was run: its transcript is legal over the list that the seat saw last, the seat's own entries grew by those of
-- the accepted rows, in order, and the numbers that the rows show stand among the seat's new looks, in order
pub record Ran (origin : Design) (first who : ℕ) (script : Script) (v w : Sight) (t : Transcript) : Type 0 where
  pub legal : Legal origin w.seen first who script t
  pub mine : w.mine ≡ v.mine ++ added_entries who script.commands t.rows
  pub looks : GrewBy v.looks w.looks (row_looks false t.rows)

-- a run was stopped: what the seat knows and added is that of a run of some first commands of the script, none or more, and
-- perhaps of further looks
abbrev pub Stopped : Design → ℕ → ℕ → List Command → Sight → Sight → Type 0
Stopped origin first who commands v w =
    (done : List Command) × (rows : List Row) × IsPrefix done commands × Ran origin first who (record { commands = done }) v w (record { rows = rows })
