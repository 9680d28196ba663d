-- The design of documents.

use Rattle.std.specs.Prelude.{Result}
use Rattle.timing_defs.specs.declared.faults.Fault.{Fault}
use Rattle.timing_defs.specs.declared.design.Design.{Design}
use Rattle.timing_defs.specs.Edits.{linked}
use Rattle.shell_core.specs.declared.documents.Documents.{Documents}

abbrev pub linked_of : Documents → Result Design Fault
linked_of docs = linked docs.early docs.late docs.netlist docs.sdc docs.spef
