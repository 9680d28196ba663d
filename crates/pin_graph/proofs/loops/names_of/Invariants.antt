use Rattle.std.proofs.Common.{◌≡◌, map, take}
use Rattle.pin_graph.specs.Loops.{number_name}
use Rattle.pin_graph.proofs.loops.names_of.Given as goal

abbrev pub invariant-loop-node : goal.invariant-loop-node
invariant-loop-node l = l.names ≡ map (number_name l.store) (take l.node-index l.nodes)
