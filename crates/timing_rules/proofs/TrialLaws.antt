-- What is said of a question about a draft is said of its list of trials, and a question that is no draft is told of a draft
-- as it is of a version.
use Rattle.std.proofs.Common.{◌≡◌, Bool, true, ◌&&◌, List, [], length, refl, sym, ap, subst}
use Rattle.std.specs.List.{list_all}
use Rattle.std.proofs.lemmas.Bool.{false≢true}
use Rattle.timing_defs.specs.declared.design.Design.{Design}
use Rattle.timing_defs.specs.declared.reports.Query.{Query, WhatIf, items_hidden-the_row-Trial-0}
use Rattle.timing_defs.specs.declared.reports.Query.TheVariants.{Slew, At, Rat, Slack, Endpoint, WorstPath, Wns, Tns, Worst, Through, Paths, WhatIf', Advise, Closing}
use Rattle.timing_defs.specs.declared.reports.Trial.{Trial}
use Rattle.timing_defs.specs.declared.reports.Report.{Report, Drafted}
use Rattle.timing_defs.specs.declared.reports.TrialRow.{TrialRow}
use Rattle.timing_defs.specs.Documents.{is_count, is_draft_trial, is_question, is_single}
use Rattle.timing_rules.specs.Drafts.{AreTrials}
use Rattle.timing_defs.specs.Documents.{is_plain}
use Rattle.timing_rules.specs.Singles.{SingleTold, single_fault}
use Rattle.timing_rules.specs.Questions.{Told, query_fault}

pub question_of_trials : (trials : List Trial) → is_question (WhatIf trials) ≡ (is_count 100 (length trials) && list_all is_draft_trial trials)
question_of_trials trials =
    ap (λ (xs : List Trial). is_count 100 (length xs) && list_all is_draft_trial xs) (items_hidden-the_row-Trial-0 trials)

pub trials_told : (d : Design) (trials : List Trial) (rows : List TrialRow) → AreTrials d [] trials rows → Told d (WhatIf trials) (Drafted rows)
trials_told d trials rows are =
    (refl, (rows, subst (λ (xs : List Trial). AreTrials d [] xs rows) (sym (items_hidden-the_row-Trial-0 trials)) are, refl))

-- a plain question is told and refused of a draft as it is of a version
pub plain_told : (d : Design) (q : Query) (r : Report) → is_plain q ≡ true → Told d q r → SingleTold d q r
plain_told d (Slew pin split tran) r h told = told
plain_told d (At pin split tran) r h told = told
plain_told d (Rat pin split tran) r h told = told
plain_told d (Slack pin split tran) r h told = told
plain_told d (Endpoint pin kind) r h told = told
plain_told d (WorstPath pin kind) r h told = told
plain_told d (Wns kind) r h told = told
plain_told d (Tns kind) r h told = told
plain_told d (Worst kind count) r h told = told
plain_told d (Through pin kind pins) r h told = absurd (false≢true h)
plain_told d (Paths pin kind count) r h told = absurd (false≢true h)
plain_told d (WhatIf' shape trials) r h told = absurd (false≢true h)
plain_told d (Advise kind candidates) r h told = absurd (false≢true h)
plain_told d (Closing query) r h told = absurd (false≢true h)

pub plain_refused : (d : Design) (q : Query) → is_plain q ≡ true → query_fault d q ≡ single_fault d q
plain_refused d q h = refl

-- and so is each question that is no draft
pub single_told : (d : Design) (q : Query) (r : Report) → is_single q ≡ true → Told d q r → SingleTold d q r
single_told d (Slew pin split tran) r h told = told
single_told d (At pin split tran) r h told = told
single_told d (Rat pin split tran) r h told = told
single_told d (Slack pin split tran) r h told = told
single_told d (Endpoint pin kind) r h told = told
single_told d (WorstPath pin kind) r h told = told
single_told d (Wns kind) r h told = told
single_told d (Tns kind) r h told = told
single_told d (Worst kind count) r h told = told
single_told d (Through pin kind pins) r h told = told
single_told d (Paths pin kind count) r h told = told
single_told d (WhatIf' shape trials) r h told = absurd (false≢true h)
single_told d (Advise kind candidates) r h told = told
single_told d (Closing query) r h told = told
