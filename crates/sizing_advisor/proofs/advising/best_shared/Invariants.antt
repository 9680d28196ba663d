use Rattle.sizing_advisor.proofs.SharedLaws.{IsFar}
use Rattle.sizing_advisor.proofs.advising.best_shared.Given as goal

abbrev pub invariant-loop-candidate : goal.invariant-loop-candidate
invariant-loop-candidate g l = IsFar l.base.store.now.design l.base.kind l.candidates l.best l.fn.steps l.steps l.candidate-iterator.a.rest.now l.candidate-iterator.b.rest.items l.candidate-iterator.b.rest.len
