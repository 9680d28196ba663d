-- Which rows and faults decide the status of a run.

use Rattle.std.specs.Prelude.{ℕ, Bool, true, false, if◌then◌else◌, List}
use Rattle.std.specs.List.{list_any}
use Rattle.timing_defs.specs.declared.faults.Fault.{Fault}
use Rattle.timing_defs.specs.declared.faults.Fault.TheVariants.{Memory as no_room}
use Rattle.timing_defs.specs.declared.scripts.Answer.{Answer}
use Rattle.timing_defs.specs.declared.scripts.Answer.TheVariants.{Taken, Reached, NotYet, Accepted, Refused, No, Told}
use Rattle.timing_defs.specs.declared.scripts.Row.{Row}
use Rattle.timing_defs.specs.declared.scripts.Transcript.{Transcript}

-- a row that is no answer: refused, no, or not yet
abbrev pub is_refusal : Answer → Bool
is_refusal Taken = false
is_refusal Reached = false
is_refusal (NotYet looks) = true
is_refusal Accepted = false
is_refusal (Refused fault) = true
is_refusal (No fault) = true
is_refusal (Told report) = false

abbrev pub has_refusal : List Row → Bool
has_refusal rows = list_any (λ row. is_refusal row.answer) rows

-- the status is 1 where some row is no answer
abbrev pub status_of : List Transcript → ℕ
status_of ts = (if list_any (λ t. has_refusal t.rows) ts then 1 else 0)

-- a fault that no definition asks for
abbrev pub is_wanting : Fault → Bool
is_wanting no_room = true
is_wanting x = false
