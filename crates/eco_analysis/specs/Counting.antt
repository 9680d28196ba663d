-- Whether an answer tells of a design: not where memory was wanting.

use Rattle.std.specs.Prelude.{Bool, true, false, Result, Ok, Err}
use Rattle.timing_defs.specs.declared.faults.Fault.{Fault}
use Rattle.timing_defs.specs.declared.faults.Fault.TheVariants.{Memory as no_room}

abbrev pub tells : Fault → Bool
tells no_room = false
tells other = true

abbrev pub is_told : {X : Type 0} → Result X Fault → Bool
is_told (Ok x) = true
is_told (Err fault) = tells fault
