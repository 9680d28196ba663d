use Rattle.std.proofs.Common.{take, length}
use Rattle.pin_graph.specs.Relinking.{ArePut}
use Rattle.pin_graph.proofs.relinking.put_all.Given as goal

abbrev pub invariant-loop-arc : goal.invariant-loop-arc
invariant-loop-arc l = ArePut (length l.fn.outs.later) (take l.arc-index l.new) l.fn.outs l.outs
