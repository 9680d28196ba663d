-- What contracts see of a draft: the list of its designs, the snapshot's first.

use Rattle.std.specs.Prelude.{◌≡◌, ◌<◌, Bool, true, false, List, [], ◌∷◌, ◌++◌, length}
use Rattle.timing_defs.specs.declared.design.Design.{Design}
use Rattle.timing_defs.specs.declared.reports.Trial.{Trial}
use Rattle.timing_defs.specs.declared.reports.TrialRow.{TrialRow}
use Rattle.timing_defs.specs.declared.reports.TrialAnswer.{TrialAnswer}
use Rattle.timing_rules.specs.Drafts.{shown_design, Tries, AreTrials, asked}

-- what stands of the last design
abbrev pub OfLast : List Design → (Design → Type 0) → Type 0
OfLast [] P = ⊥
OfLast (snapshot ∷ designs) P = P (shown_design snapshot designs)

-- the last design was dropped, and one stays at least; or there is only the snapshot's, which stays
abbrev pub Drops : List Design → Bool → List Design → Type 0
Drops old true new = (d : Design) × (old ≡ new ++ d ∷ []) × (0 < length new)
Drops old false new = (new ≡ old) × (length old ≡ 1)

-- a trial is answered, and makes a list of designs of another one
abbrev pub Follows : List Design → Trial → TrialAnswer → List Design → Type 0
Follows [] trial answer new = ⊥
Follows (snapshot ∷ designs) trial answer new = (next : List Design) × (new ≡ snapshot ∷ next) × Tries snapshot designs trial answer next

-- the row of a trial: the question where it asks, and the answer
abbrev pub IsRowOf : List Design → Trial → TrialRow → List Design → Type 0
IsRowOf old trial row new = (row.query ≡ asked trial) × Follows old trial row.answer new

-- the rows so far, and the designs then: with the rows of the rest they are those of all trials
pub record AreSoFar (snapshot : Design) (trials rest : List Trial) (rows : List TrialRow) (draft : List Design) : Type 0 where
  pub designs : List Design
  pub held : draft ≡ snapshot ∷ designs
  pub told : (more : List TrialRow) → AreTrials snapshot designs rest more → AreTrials snapshot [] trials (rows ++ more)
