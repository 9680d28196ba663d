use Rattle.pin_graph.proofs.StartLaws.{number_is}
use Rattle.pin_graph.proofs.keeping.keeps_net.Goals as goal

pub net_pins-requires : goal.net_pins-requires
net_pins-requires c = number_is c.args.base.now.nets c.args.name.now c.in-Some-Some.a c.in-Some-Some.ensures

pub net_pins-requires-in-Some-Some : goal.net_pins-requires-in-Some-Some
net_pins-requires-in-Some-Some c = number_is c.args.store.now.nets c.args.name.now c.in-Some-Some.b c.in-Some-Some.ensures'
