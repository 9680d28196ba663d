use Rattle.std.proofs.Common.{take}
use Rattle.pin_graph.specs.Relinking.{AreRelinked}
use Rattle.pin_graph.proofs.relinking.relink.Given as goal

abbrev pub invariant-loop-pin : goal.invariant-loop-pin
invariant-loop-pin l = AreRelinked l.store l.network (take l.pin-index l.pins) l.fn.ins l.ins l.outs
