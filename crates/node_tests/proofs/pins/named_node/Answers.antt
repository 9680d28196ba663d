use Rattle.node_tests.proofs.PinNumbers.{number_found, number_there}
use Rattle.node_tests.proofs.pins.named_node.Goals as goal

pub unreachable-requires : goal.unreachable-requires
unreachable-requires c = number_there c.args.graph.now.stored c.args.store.now c.requires.graph c.laws.ensures.numbered c.laws.ensures.linked c.args.inst c.args.pin.now c.args.tran c.requires.pin c.inst_at.result.now c.inst_at.ensures.value c.in_ok-name.name c.in_ok-name.ensures c.in-None.ensures.value

pub returns-clause-node : goal.returns-clause-node
returns-clause-node c = (number_found c.args.graph.now.stored c.args.store.now c.requires.graph c.laws.ensures.numbered c.laws.ensures.linked c.args.inst c.args.pin.now c.args.tran c.requires.pin c.inst_at.result.now c.inst_at.ensures.value c.in_ok-name.name c.in_ok-name.ensures c.in-Some.node c.in-Some.ensures.value).0
