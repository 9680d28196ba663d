-- Trials on a draft of a design (own; the edits are those of an ECO). The state of a draft is the list of designs that the
-- accepted edits made of the snapshot, in order; the snapshot itself stays before them. Free is alone which loop or
-- origin of an overflow a refusal names.

use Rattle.std.specs.Prelude.{◌≡◌, List, [], ◌∷◌, ◌++◌, Option, Some, None, ⊤}
use Rattle.timing_defs.specs.declared.design.Design.{Design}
use Rattle.timing_defs.specs.declared.reports.Query.{Query}
use Rattle.timing_defs.specs.declared.reports.Trial.{Trial}
use Rattle.timing_defs.specs.declared.reports.Trial.TheVariants.{Try, Drop, Ask}
use Rattle.timing_defs.specs.declared.reports.TrialRow.{TrialRow}
use Rattle.timing_defs.specs.declared.reports.TrialAnswer.{TrialAnswer}
use Rattle.timing_defs.specs.declared.reports.TrialAnswer.TheVariants.{Tried, Refused, Dropped, NoDraft, No, Told}
use Rattle.timing_rules.specs.Checks.{Accepts, Refuses}
use Rattle.timing_rules.specs.Singles.{SingleTold, single_fault}

-- the design that a draft shows: the last one, or the snapshot's
abbrev pub shown_design : Design → List Design → Design
shown_design snapshot [] = snapshot
shown_design snapshot (d ∷ designs) = shown_design d designs

-- edits are tried: accepted, and the draft shows their design, or refused, and the draft is as before
abbrev pub Tries : Design → List Design → Trial → TrialAnswer → List Design → Type 0
Tries snapshot designs (Try eco) Tried next =
    (d : Design) × Accepts (shown_design snapshot designs) eco d × (next ≡ designs ++ d ∷ [])
Tries snapshot designs (Try eco) (Refused x) next = Refuses (shown_design snapshot designs) eco x × (next ≡ designs)
-- the last design is dropped, unless the snapshot's is the only one
Tries snapshot designs Drop Dropped next = (d : Design) × (designs ≡ next ++ d ∷ [])
Tries snapshot designs Drop NoDraft next = (designs ≡ []) × (next ≡ [])
-- a question that is no draft is asked of the design that is shown
Tries snapshot designs (Ask q) (Told r) next = SingleTold (shown_design snapshot designs) q r × (next ≡ designs)
Tries snapshot designs (Ask q) (No x) next = (single_fault (shown_design snapshot designs) q ≡ Some x) × (next ≡ designs)
Tries snapshot designs trial answer next = ⊥

abbrev pub asked : Trial → Option Query
asked (Ask q) = Some q
asked (Try eco) = None
asked Drop = None

-- the rows of trials, one each, in order
abbrev pub AreTrials : Design → List Design → List Trial → List TrialRow → Type 0
AreTrials snapshot designs [] [] = ⊤
AreTrials snapshot designs [] (row ∷ rows) = ⊥
AreTrials snapshot designs (trial ∷ trials) [] = ⊥
AreTrials snapshot designs (trial ∷ trials) (row ∷ rows) =
    (next : List Design) × (row.query ≡ asked trial) × Tries snapshot designs trial row.answer next
    × AreTrials snapshot next trials rows
