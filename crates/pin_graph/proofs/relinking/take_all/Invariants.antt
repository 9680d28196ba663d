use Rattle.std.proofs.Common.{take, length}
use Rattle.pin_graph.specs.Relinking.{AreTaken}
use Rattle.pin_graph.proofs.relinking.take_all.Given as goal

abbrev pub invariant-loop-arc : goal.invariant-loop-arc
invariant-loop-arc l = AreTaken (length l.fn.outs.later) l.node (take l.arc-index l.old) l.fn.outs l.outs
