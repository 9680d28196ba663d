-- What the fault of a resize tells of its names.

use Rattle.std.specs.Prelude.{◌≡◌, Result, Ok, Err, Option, None, Some}
use Rattle.timing_defs.specs.declared.faults.Fault.{Fault}
use Rattle.timing_defs.specs.declared.faults.Fault.TheVariants.{UnknownInstance, UnknownCell, Memory as no_room}
use Rattle.timing_defs.specs.declared.faults.QueryFault.{QueryFault}
use Rattle.timing_defs.specs.declared.faults.QueryFault.TheVariants.{UnknownName, Memory}

-- a name that is not there, as the fault of a question
abbrev pub unknown_by : Fault → Option QueryFault
unknown_by (UnknownInstance name) = Some (UnknownName name)
unknown_by (UnknownCell name) = Some (UnknownName name)
unknown_by other = None

abbrev pub is_told : Fault → Option QueryFault
is_told no_room = Some Memory
is_told other = unknown_by other

abbrev pub IsUnknown : Fault → Result (Unit {0}) QueryFault → Type 0
IsUnknown x (Ok done) = is_told x ≡ None
IsUnknown x (Err fault) = is_told x ≡ Some fault
