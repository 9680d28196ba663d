use Rattle.std.proofs.Common.{◌∙◌}
use Rattle.node_tests.proofs.ClockedLaws.{on_network}
use Rattle.node_tests.proofs.endpoints.is_on_network.Goals as goal

pub returns : goal.returns
returns c =
    c.is_network.ensures
    ∙ on_network c.args.graph.now c.args.store.now c.requires.graph c.laws-2.ensures c.args.inst c.args.pin.now c.in_ok-node.node c.in_ok-node.ensures.node c.in_ok-node.ensures.below c.requires.pin
