use Rattle.std.proofs.Common.{take}
use Rattle.level_workers.specs.Mapped.{IsMap}
use Rattle.timing_rules.specs.SizeAdvice.{IsOutcome}
use Rattle.size_advice.proofs.outcomes.outcomes_in_turn.Given as goal

abbrev pub invariant-loop-candidate : goal.invariant-loop-candidate
invariant-loop-candidate g l = IsMap (IsOutcome l.base.store.now.design) (take l.candidate-index l.candidates) l.outcomes
