-- The bytes of a run that goes on from a saved journal: its journal is one block, of its own entries alone, numbered behind
-- the saved ones (own).

use Rattle.std.specs.Prelude.{ℕ, ◌+◌, List, ◌++◌, length, codes}
use Rattle.timing_defs.specs.declared.constraints.Clock.{Clock}
use Rattle.timing_defs.specs.declared.constraints.Derates.{Derates}
use Rattle.timing_defs.specs.declared.edits.Entry.{Entry}
use Rattle.timing_defs.specs.declared.scripts.Transcript.{Transcript}
use Rattle.timing_defs.specs.declared.scripts.Totals.{Totals}
use Rattle.timing_defs.specs.Output.{line, number, entries_text, sessions_text, final_text}

-- the factors of a block, in millionths
abbrev pub derates_text : Derates → List ℕ
derates_text d =
    codes "derates" ++ number d.early_cell ++ number d.late_cell ++ number d.early_net ++ number d.late_net

-- a block whose entries stand behind `first` others
abbrev pub block_text : ℕ → Derates → List Entry → List ℕ
block_text first derates entries =
    line (codes "journal 2" ++ number first ++ number (length entries)) ++ line (derates_text derates)
    ++ entries_text (first + 1) entries

-- the whole output, in which the journal is one block behind `first` saved entries
abbrev pub saved_output_text : ℕ → Derates → List Entry → List Transcript → List Clock → Totals → List ℕ
saved_output_text first derates entries ts clocks totals =
    block_text first derates entries ++ sessions_text clocks 1 ts ++ final_text totals
