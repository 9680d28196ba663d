-- What each question that is no draft is answered, and when it is refused: the plain ones, those about paths through pins and
-- ranked paths, advice, and those that closing timing needs. A draft is asked these, and so is a version.

use Rattle.std.specs.Prelude.{◌≡◌, Option, None, List}
use Rattle.timing_defs.specs.declared.rows.Path.{Path}
use Rattle.timing_defs.specs.declared.reports.Query.{Query}
use Rattle.timing_defs.specs.declared.reports.Query.TheVariants.{Through, Paths, WhatIf', Advise, Closing}
use Rattle.timing_defs.specs.declared.reports.Advice.{Advice}
use Rattle.timing_defs.specs.declared.reports.Report.{Report}
use Rattle.timing_defs.specs.declared.reports.Report.TheVariants.{Shown, Paths as path_list, Advised, Closing as closing_report}
use Rattle.timing_defs.specs.declared.closing.ClosingReport.{ClosingReport}
use Rattle.timing_defs.specs.declared.faults.QueryFault.{QueryFault}
use Rattle.timing_defs.specs.declared.design.Design.{Design}
use Rattle.timing_rules.specs.Advice.{IsAdvice}
use Rattle.timing_rules.specs.Closing.{IsClosing, closing_fault, through_fault}
use Rattle.timing_rules.specs.Ranking.{AreWorstPaths}
use Rattle.timing_rules.specs.Reports.{IsPlainReport, endpoint_fault, plain_fault}
use Rattle.timing_rules.specs.Through.{IsThrough}

-- the report that a question is answered; one about a draft has none here
abbrev pub IsSingleReport : Design → Query → Report → Type 0
IsSingleReport d (Through pin kind pins) r = (path : Option Path) × IsThrough d kind pin pins path × (r ≡ Shown path)
IsSingleReport d (Paths pin kind count) r =
    (paths : List Path) × AreWorstPaths d kind pin count paths × (r ≡ path_list paths)
IsSingleReport d (WhatIf' shape trials) r = ⊥
IsSingleReport d (Advise kind candidates) r =
    (advice : Option Advice) × IsAdvice d kind candidates advice × (r ≡ Advised advice)
IsSingleReport d (Closing query) r = (report : ClosingReport) × IsClosing d query report × (r ≡ closing_report report)
IsSingleReport d q r = IsPlainReport d q r

-- why a question is refused; advice never is
abbrev pub single_fault : Design → Query → Option QueryFault
single_fault d (Through pin kind pins) = through_fault d kind pin pins
single_fault d (Paths pin kind count) = endpoint_fault d kind pin
single_fault d (WhatIf' shape trials) = None
single_fault d (Advise kind candidates) = None
single_fault d (Closing query) = closing_fault d query
single_fault d q = plain_fault d q

abbrev pub SingleTold : Design → Query → Report → Type 0
SingleTold d q r = (single_fault d q ≡ None) × IsSingleReport d q r
