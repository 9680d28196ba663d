use Rattle.std.proofs.Common.{◌++◌, map, take}
use Rattle.design_link.specs.Nodes.{nodes_in, HaveSameNodes}
use Rattle.design_link.proofs.node_sets.NodeSet.with_caps.Given as goal

abbrev pub invariant-loop-cap : goal.invariant-loop-cap
invariant-loop-cap l = HaveSameNodes (nodes_in l.all) (nodes_in l.initial.all ++ map (λ c. c.node) (take l.cap-index l.caps))
