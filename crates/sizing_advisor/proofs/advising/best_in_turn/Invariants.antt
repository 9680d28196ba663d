use Rattle.std.proofs.Common.{take}
use Rattle.sizing_advisor.specs.Trying.{IsBest}
use Rattle.sizing_advisor.proofs.advising.best_in_turn.Given as goal

abbrev pub invariant-loop-candidate : goal.invariant-loop-candidate
invariant-loop-candidate g l = IsBest l.base.store.now.design l.base.kind (take l.candidate-index l.candidates) l.best l.fn.steps l.steps
