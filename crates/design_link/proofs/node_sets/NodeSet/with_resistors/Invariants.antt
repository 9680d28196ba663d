use Rattle.std.proofs.Common.{◌∷◌, ◌++◌, [], take}
use Rattle.std.specs.List.{flat_map}
use Rattle.design_link.specs.Nodes.{nodes_in, HaveSameNodes}
use Rattle.design_link.proofs.node_sets.NodeSet.with_resistors.Given as goal

abbrev pub invariant-loop-resistor : goal.invariant-loop-resistor
invariant-loop-resistor l = HaveSameNodes (nodes_in l.all) (nodes_in l.initial.all ++ flat_map (λ r. r.a ∷ r.b ∷ []) (take l.resistor-index l.resistors))
