use Rattle.rc_tree.specs.Numbering.{numbered}
use Rattle.rc_tree.proofs.Weighing.{pin_more}
use Rattle.rc_tree.proofs.weights.add_pins.Goals as goal

pub loop-pin-preserved : goal.loop-pin-preserved
loop-pin-preserved c =
    pin_more (numbered c.args.nodes.now) c.args.forest.now c.args.pins.now c.loop-pin.pin-index c.pin-item.result c.place_of_pin-place.result c.amount.result
    c.args.weights.items c.loop-pin.all.items c.add_at-all.result.items c.loop-pin-test.true c.pin-item.is c.requires.len c.requires.amounts c.place_of_pin-place.ensures
    c.amount.ensures c.add_at-all.ensures c.loop-pin.invariant
