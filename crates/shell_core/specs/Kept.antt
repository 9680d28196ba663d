-- What documents that were read hold beside their values.

use Rattle.std.specs.Prelude.{◌≡◌, ◌≤◌, ◌^◌, true, List, length, Option, Some, None, ⊤}
use Rattle.std.specs.List.{All, list_all}
use Rattle.timing_defs.specs.declared.edits.Entry.{Entry}
use Rattle.timing_defs.specs.Documents.{is_library, are_constraints, are_parasitics, is_eco, IsNetlist}
use Rattle.shell_core.specs.declared.documents.Documents.{Documents}
use Rattle.shell_core.specs.declared.documents.DesignDocuments.{DesignDocuments}
use Rattle.shell_core.specs.Scripts.{IsScript}

-- saved entries: ECOs in their bounds, and not too many to be counted
abbrev pub AreReplayable : Option (List Entry) → Type 0
AreReplayable None = ⊤
AreReplayable (Some entries) = (list_all (λ entry. is_eco entry.eco) entries ≡ true) × (length entries ≤ 2 ^ 62)

-- documents that a design can be linked from
pub record IsKeptDesign (design : DesignDocuments) : Type 0 where
  pub has_early : is_library design.early ≡ true
  pub has_late : is_library design.late ≡ true
  pub has_netlist : IsNetlist design.netlist
  pub has_constraints : are_constraints design.sdc ≡ true
  pub has_parasitics : are_parasitics design.spef.nets ≡ true

pub record AreKept (docs : Documents) : Type 0 where
  pub has_early : is_library docs.early ≡ true
  pub has_late : is_library docs.late ≡ true
  pub has_netlist : IsNetlist docs.netlist
  pub has_constraints : are_constraints docs.sdc ≡ true
  pub has_parasitics : are_parasitics docs.spef.nets ≡ true
  pub has_saved : AreReplayable docs.saved
  pub scripts : All IsScript docs.scripts
