use Rattle.std.proofs.Common.{sym, ◌∙◌}
use Rattle.affected_cone.proofs.AskedLaws.{named_node}
use Rattle.affected_cone.proofs.asked.node_named.Goals as goal

pub returns-in-Some-clause-node : goal.returns-in-Some-clause-node
returns-in-Some-clause-node c =
    named_node c.args.store.now c.laws.ensures.numbered c.args.graph.now.stored c.requires c.args.pin.now c.args.tran c.in-Some.node (sym c.in-Some.is ∙ c.node.ensures.value)
