use Rattle.std.proofs.Common.{take}
use Rattle.settling.specs.Steps.{AreAdded}
use Rattle.settling.proofs.steps.wait_all.Given as goal

abbrev pub invariant-loop-number : goal.invariant-loop-number
invariant-loop-number g l = AreAdded (g.R.Rule.count l.rule) (take l.number-index l.numbers) l.fn.queue l.queue
