use Rattle.std.proofs.Common.{take}
use Rattle.level_workers.specs.Mapped.{IsMap}
use Rattle.affected_cone.specs.Analysed.{IsEnd}
use Rattle.affected_cone.proofs.end_updates.each_slacks.Given as goal

abbrev pub invariant-loop-pin : goal.invariant-loop-pin
invariant-loop-pin l = IsMap (IsEnd l.weighed.search.now.store.now) (take l.pin-index l.ends) l.found
