use Rattle.level_workers.proofs.Joins.{map-more}
use Rattle.timing_rules.specs.SizeAdvice.{IsOutcome}
use Rattle.size_advice.proofs.outcomes.outcomes_in_turn.Goals as goal

pub loop-candidate-preserved : goal.loop-candidate-preserved
loop-candidate-preserved g c =
    map-more (IsOutcome c.args.base.now.store.now.design) c.args.candidates.now c.loop-candidate.candidate-index c.candidate-item.result
    c.loop-candidate.outcomes c.push.new.self c.in_ok-outcome.outcome c.loop-candidate-test.true c.candidate-item.is c.loop-candidate.invariant
    c.in_ok-outcome.ensures c.in_ok-push.ensures.ok
