use Rattle.std.proofs.Common.{refl}
use Rattle.pin_graph.proofs.StartLaws.{number_is}
use Rattle.pin_graph.proofs.SeedPins.{net_put, net_away, ok_then}
use Rattle.pin_graph.proofs.seeding.add_net_pins.Goals as goal

pub net_pins-requires : goal.net_pins-requires
net_pins-requires c = number_is c.args.store.now.nets c.args.name.now c.in-Some.net c.in-Some.ensures

pub returns-in-Some : goal.returns-in-Some
returns-in-Some c =
    ok_then c.add_all.result
    (net_put c.args.store.now c.laws.ensures.numbered c.laws.ensures.linked c.args.name.now c.in-Some.net c.net_pins.result.now c.args.pins.now c.add_all.new.numbers
    c.in-Some.ensures c.net_pins.ensures)
    c.add_all.ensures

pub returns-in-None : goal.returns-in-None
returns-in-None c =
    net_away c.args.store.now c.laws.ensures.numbered c.laws.ensures.linked c.args.name.now c.args.pins.now c.args.pins.now c.in-None.ensures refl
