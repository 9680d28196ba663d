-- Documents that are linked: each as its reader gives it, and the cells that can be used.

use Rattle.std.specs.Prelude.{◌≡◌, Bool, true, false}
use Rattle.std.specs.Option.{option_map_or}
use Rattle.timing_defs.specs.declared.library.Cell.{Cell}
use Rattle.timing_defs.specs.declared.library.Library.{Library}
use Rattle.timing_defs.specs.declared.constraints.Constraints.{Constraints}
use Rattle.timing_defs.specs.declared.parasitics.Parasitics.{Parasitics}
use Rattle.timing_defs.specs.declared.netlist.Module.{Module}
use Rattle.timing_defs.specs.Netlist.{cell_named}
use Rattle.timing_defs.specs.Edits.{cells_agree}
use Rattle.timing_defs.specs.Documents.{is_library, are_constraints, are_parasitics, IsNetlist}

-- what the readers give of five documents
pub record AreDocuments (early late : Library) (netlist : Module) (constraints : Constraints) (parasitics : Parasitics) : Type 0 where
  pub has_early : is_library early ≡ true
  pub has_late : is_library late ≡ true
  pub has_netlist : IsNetlist netlist
  pub has_constraints : are_constraints constraints ≡ true
  pub has_parasitics : are_parasitics parasitics.nets ≡ true

-- a cell agrees with that of its name in a library
abbrev pub agrees_in : Library → Cell → Bool
agrees_in early cell = option_map_or (λ other. cells_agree other cell) (cell_named early.cells cell.name) false
