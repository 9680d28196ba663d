use Rattle.std.proofs.Common.{◌∷◌, []}
use Rattle.design_link.specs.Nodes.{nodes_in}
use Rattle.design_link.proofs.NodeLaws.{then_more}
use Rattle.design_link.proofs.node_sets.NodeSet.with_ends.Goals as goal

pub returns : goal.returns
returns c =
    then_more (nodes_in c.args.self) (nodes_in c.in_ok-first.first) (nodes_in c.in_ok-both.both) (c.args.resistor.now.a ∷ []) (c.args.resistor.now.b ∷ [])
    c.in_ok-first.ensures c.in_ok-both.ensures
