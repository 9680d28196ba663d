use Rattle.std.proofs.Common.{take}
use Rattle.level_workers.specs.Mapped.{IsMap}
use Rattle.arrival_engine.specs.Analysed.{IsBefore}
use Rattle.arrival_engine.proofs.nodes.befores.Given as goal

abbrev pub invariant-loop-arc : goal.invariant-loop-arc
invariant-loop-arc l = IsMap (IsBefore l.graph l.rows) (take l.arc-index l.arcs) l.found.items
