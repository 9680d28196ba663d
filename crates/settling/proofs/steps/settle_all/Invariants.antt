use Rattle.std.proofs.Common.{take}
use Rattle.settling.specs.Steps.{IsStep}
use Rattle.settling.proofs.steps.settle_all.Given as goal

abbrev pub invariant-loop-number : goal.invariant-loop-number
invariant-loop-number g l = IsStep (g.R.Rule.count l.rule) (g.R.Rule.value l.rule) (take l.number-index l.numbers)
    l.fn.values l.fn.work.queue l.fn.work.changed l.values l.work.queue l.work.changed
