use Rattle.node_tests.proofs.PinNumbers.{near_low, near_found}
use Rattle.node_tests.proofs.pins.pin_node.Goals as goal

pub node_of-requires : goal.node_of-requires
node_of-requires c = near_low c.args.store.now c.laws.ensures.numbered c.laws.ensures.linked c.args.inst c.args.pin.now c.args.tran c.requires.pin c.as_bytes.result.now c.as_bytes.ensures.value c.in-Some.number c.in-Some.ensures

pub returns-in-Some-clause-node : goal.returns-in-Some-clause-node
returns-in-Some-clause-node c = (near_found c.args.store.now c.laws.ensures.numbered c.laws.ensures.linked c.args.inst c.args.pin.now c.args.tran c.requires.pin c.as_bytes.result.now c.as_bytes.ensures.value c.in-Some.number c.in-Some.ensures c.node_of.result c.node_of.ensures).0

pub returns-in-Some-clause-below : goal.returns-in-Some-clause-below
returns-in-Some-clause-below c = (near_found c.args.store.now c.laws.ensures.numbered c.laws.ensures.linked c.args.inst c.args.pin.now c.args.tran c.requires.pin c.as_bytes.result.now c.as_bytes.ensures.value c.in-Some.number c.in-Some.ensures c.node_of.result c.node_of.ensures).1
