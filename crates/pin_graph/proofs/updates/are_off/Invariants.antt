use Rattle.std.proofs.Common.{take}
use Rattle.std.specs.Prelude.{All}
use Rattle.pin_graph.specs.Renewed.{IsOff}
use Rattle.pin_graph.proofs.updates.are_off.Given as goal

abbrev pub invariant-loop-pin : goal.invariant-loop-pin
invariant-loop-pin l = All (IsOff l.network l.pins) (take l.pin-index l.list)
