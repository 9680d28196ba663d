-- Reports of rows of endpoints.

use Rattle.std.specs.Prelude.{Bool, true, false}
use Rattle.timing_defs.specs.declared.reports.Report.{Report}
use Rattle.timing_defs.specs.declared.reports.Report.TheVariants.{Ends}

abbrev pub is_ends : Report → Bool
is_ends (Ends rows) = true
is_ends r = false
