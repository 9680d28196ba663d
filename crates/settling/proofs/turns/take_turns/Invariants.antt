use Rattle.settling.specs.Steps.{IsGoneOn}
use Rattle.settling.proofs.turns.take_turns.Given as goal

abbrev pub invariant-loop-turn : goal.invariant-loop-turn
invariant-loop-turn g l = IsGoneOn (g.R.Rule.count l.rule) (g.R.Rule.value l.rule) l.fn.values l.fn.work.changed l.values l.work.queue l.work.changed
