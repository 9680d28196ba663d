-- What a question that closing timing needs is answered where it has no fault.

use Rattle.std.specs.Prelude.{◌≡◌, None}
use Rattle.timing_defs.specs.declared.design.Design.{Design}
use Rattle.timing_defs.specs.declared.closing.ClosingQuery.{ClosingQuery}
use Rattle.timing_defs.specs.declared.closing.ClosingReport.{ClosingReport}
use Rattle.timing_rules.specs.Closing.{IsClosing, closing_fault}

abbrev pub IsAnswer : Design → ClosingQuery → ClosingReport → Type 0
IsAnswer d q r = (closing_fault d q ≡ None) × IsClosing d q r
