use Rattle.std.proofs.Common.{◌≡◌, [], ◌∷◌, drop}
use Rattle.timing_defs.specs.declared.design.Design.{Design}
use Rattle.what_if.specs.Layers.{AreSoFar}
use Rattle.what_if.proofs.trials.push_rows.Given as goal

-- the rows of the trials so far
abbrev pub invariant-loop-trial : goal.invariant-loop-trial
invariant-loop-trial g l = (snapshot : Design) → l.fn.draft ≡ snapshot ∷ [] → AreSoFar snapshot l.trials (drop l.trial-index l.trials) l.rows l.draft
