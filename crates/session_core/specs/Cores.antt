-- The state of a core.

use Rattle.session_core.specs.declared.cores.Core.{Core}
use Rattle.session_core.specs.Machine.{State, state}

abbrev pub state_of : Core → State
state_of core = state core.first core.entries core.scripts core.sessions
