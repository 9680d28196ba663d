-- Why a question for a net is refused.

use Rattle.std.specs.Prelude.{◌≡◌, ◌⊎◌, Option, Some}
use Rattle.timing_defs.specs.declared.faults.QueryFault.{QueryFault}
use Rattle.timing_defs.specs.declared.faults.QueryFault.TheVariants.{Memory}

-- a question is refused for want of memory, else for its fault
abbrev pub IsRefusal : Option QueryFault → QueryFault → Type 0
IsRefusal fault told = (told ≡ Memory) ⊎ (fault ≡ Some told)
