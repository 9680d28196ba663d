-- The seats of sessions that begin.

use Rattle.timing_defs.specs.declared.design.Design.{Design}
use Rattle.timing_defs.specs.declared.edits.Entry.{Entry}
use Rattle.version_board.specs.Callers.{Sitting}
use Rattle.live_run.specs.declared.sessions.Seating.{Seating}

abbrev pub seat_in : {B : _} → Seating B → Sitting Entry Design
seat_in s = s.seat
