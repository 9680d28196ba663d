-- What each question is answered, drafts too, and when it is refused.

use Rattle.std.specs.Prelude.{◌≡◌, List, [], Option, None}
use Rattle.timing_defs.specs.declared.reports.Query.{Query}
use Rattle.timing_defs.specs.declared.reports.Query.TheVariants.{WhatIf'}
use Rattle.timing_defs.specs.declared.reports.TrialRow.{TrialRow}
use Rattle.timing_defs.specs.declared.reports.Report.{Report}
use Rattle.timing_defs.specs.declared.reports.Report.TheVariants.{Drafted}
use Rattle.timing_defs.specs.declared.faults.QueryFault.{QueryFault}
use Rattle.timing_defs.specs.declared.design.Design.{Design}
use Rattle.timing_defs.specs.Trials.{trials_in}
use Rattle.timing_rules.specs.Drafts.{AreTrials}
use Rattle.timing_rules.specs.Singles.{IsSingleReport, single_fault}

-- the report that a question is answered
abbrev pub IsReport : Design → Query → Report → Type 0
IsReport d (WhatIf' shape trials) r = (rows : List TrialRow) × AreTrials d [] (trials_in trials) rows × (r ≡ Drafted rows)
IsReport d q r = IsSingleReport d q r

-- why a question is refused; trials never are
abbrev pub query_fault : Design → Query → Option QueryFault
query_fault d q = single_fault d q

abbrev pub Told : Design → Query → Report → Type 0
Told d q r = (query_fault d q ≡ None) × IsReport d q r
