use Rattle.std.proofs.Common.{ap}
use Rattle.level_cone.specs.Waiting.{listed_keys}
use Rattle.level_cone.proofs.WaitingLaws.{none_waits}
use Rattle.level_cone.proofs.queues.LevelQueue.new.Goals as goal

pub returns : goal.returns
returns c = none_waits (listed_keys c.new.result.entries) (ap listed_keys c.new.ensures.empty)
