-- What a live session at its seat has run.

use Rattle.std.specs.Prelude.{ℕ, ◌≡◌, List, [], length, Option, Some, None}
use Rattle.timing_defs.specs.declared.design.Design.{Design}
use Rattle.timing_defs.specs.declared.edits.Entry.{Entry}
use Rattle.timing_defs.specs.declared.scripts.Command.{Command}
use Rattle.timing_defs.specs.declared.scripts.Row.{Row}
use Rattle.version_board.specs.Callers.{Sitting}
use Rattle.session_engine.specs.Versions.{Versioned}
use Rattle.session_engine.specs.Looking.{Sight}
use Rattle.session_engine.specs.Running.{IsRun, Ran}
use Rattle.live_journal.specs.declared.cells.Known.{Known}

-- what contracts see of a session: its seat, the version that it holds, how many commands it has answered, and what it knows of the journal
pub record Seated : Type 0 where
  pub seat : Sitting Entry Design
  pub held : Option Versioned
  pub answered : ℕ
  pub known : Known

-- what a seat knew before its first look
abbrev pub fresh : Sight → Sight
fresh w = record w { seen = []; mine = []; looks = [] }

-- at a new seat that now knows this, these commands were answered by these rows, as a script's are
abbrev pub HasRun : Sight → List Command → List Row → Type 0
HasRun w commands rows =
    (o : Design) → w.origin ≡ Some o → Ran o w.first w.number (record { commands = commands }) (fresh w) w (record { rows = rows })

-- a session that holds a version goes on from it, with as many commands answered; one that holds none goes on no more
abbrev pub RanAt : Sight → Option Versioned → ℕ → List Command → List Row → Type 0
RanAt w (Some held) answered commands rows =
    ((o : Design) → w.origin ≡ Some o → IsRun o w.first w.number (fresh w) commands w held rows) × (answered ≡ length commands)
RanAt w None answered commands rows = HasRun w commands rows

-- a session has answered these commands by these rows
abbrev pub HasAnswered : Seated → List Command → List Row → Type 0
HasAnswered s = RanAt s.seat.view s.held s.answered
