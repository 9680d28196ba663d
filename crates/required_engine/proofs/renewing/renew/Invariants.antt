use Rattle.level_cone.specs.Waiting.{room}
use Rattle.required_engine.specs.Updated.{IsBackPass}
use Rattle.required_engine.proofs.renewing.renew.Given as goal

abbrev pub invariant-loop-queue : goal.invariant-loop-queue
invariant-loop-queue g l = IsBackPass l.base.stored l.graph l.first l.rows l.queue l.fn.steps l.steps

abbrev pub decreases-loop-queue : goal.decreases-loop-queue
decreases-loop-queue g l = room l.queue
