-- What launches a path and what captures it, over the names of its nodes.

use Rattle.std.specs.Prelude.{ℕ, List, [], ◌∷◌, Option, Some, None}
use Rattle.timing_defs.specs.declared.kinds.Tran.{Tran}
use Rattle.timing_defs.specs.declared.rows.Capture.{Capture}
use Rattle.timing_defs.specs.declared.rows.Path.{Path}
use Rattle.timing_defs.specs.declared.design.Design.{Design}
use Rattle.timing_rules.specs.Paths.{Named, launch_node, owner_named}

-- the launch node of a list of nodes
abbrev pub launch_over : Design → List Named → Option Named
launch_over d [] = None
launch_over d (n ∷ ms) = Some (launch_node d n ms)

abbrev pub capture_named : Design → List ℕ → ℕ → Capture
capture_named d pin clock = record { pin = pin; cell = owner_named d pin; clock = clock }

-- the launch edge and the capture edge of a path
abbrev pub edge_of_path : Path → ℕ × Tran
edge_of_path p = (p.launch_clock, p.launch_tran)

abbrev pub capture_of_path : Path → ℕ × Tran
capture_of_path p = (p.capture_clock, p.capture_tran)
