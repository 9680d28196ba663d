use Rattle.std.proofs.Common.{map, take}
use Rattle.design_link.specs.Nodes.{nodes_in, HaveSameNodes}
use Rattle.design_link.proofs.NetNodeLaws.{pin_node}
use Rattle.design_link.proofs.net_nodes.pin_nodes.Given as goal

abbrev pub invariant-loop-pin : goal.invariant-loop-pin
invariant-loop-pin l = HaveSameNodes (nodes_in l.nodes) (map (pin_node l.store) (take l.pin-index l.pin-items))
