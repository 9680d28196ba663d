-- The commands that engines answer.
use Rattle.std.specs.Prelude.{Bool, true, ◌&&◌, length}
use Rattle.std.specs.List.{list_all}
use Rattle.timing_defs.specs.Documents.{is_eco, is_count, is_closing, is_draft_trial}
use Rattle.timing_defs.specs.Documents.{is_plain}
use Rattle.timing_defs.specs.Trials.{trials_in}
use Rattle.timing_defs.specs.declared.reports.Query.{Query}
use Rattle.timing_defs.specs.declared.reports.Query.TheVariants.{Worst, Through, Paths, WhatIf', Advise, Closing}
use Rattle.timing_defs.specs.declared.scripts.Command.{Command}
use Rattle.timing_defs.specs.declared.scripts.Command.TheVariants.{Take, Await, Ask, Change}
use Rattle.timing_defs.specs.declared.scripts.Script.{Script}

-- a question that a script may ask: a plain one, or one about the worst path through 1 to 16 pins, 1 to 100 paths, 1 to 100
-- trials on a draft, or 1 to 100 candidates of a resize, or one that closing timing needs
abbrev pub is_asked : Query → Bool
is_asked (Through pin kind pins) = is_count 16 (length pins)
is_asked (Paths pin kind count) = is_count 100 count
is_asked (WhatIf' shape trials) = is_count 100 (length (trials_in trials)) && list_all is_draft_trial (trials_in trials)
is_asked (Advise kind candidates) = is_count 100 (length candidates)
is_asked (Closing query) = is_closing query
is_asked q = is_plain q

-- a question as a line says it: 1 to 100 endpoints, too
abbrev pub is_read : Query → Bool
is_read (Worst kind count) = is_count 100 count
is_read q = is_asked q

-- a command that changes the design has 1 to 1,000 edits, and numbers of their form
abbrev pub is_answerable : Command → Bool
is_answerable (Change eco) = is_eco eco
is_answerable (Ask q) = is_asked q
is_answerable Take = true
is_answerable (Await number looks) = true

abbrev pub are_answerable : Script → Bool
are_answerable script = list_all is_answerable script.commands
