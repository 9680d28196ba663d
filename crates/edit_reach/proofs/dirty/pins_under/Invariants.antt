use Rattle.std.proofs.Common.{◌≡◌, take, map}
use Rattle.pin_graph.specs.Nodes.{pin_under}
use Rattle.edit_reach.proofs.dirty.pins_under.Given as goal

abbrev pub invariant-loop-node : goal.invariant-loop-node
invariant-loop-node l = l.pins ≡ map pin_under (take l.node-index l.nodes)
