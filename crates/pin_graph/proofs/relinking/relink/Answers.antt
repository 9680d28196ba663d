use Rattle.pin_graph.proofs.RelinkLaws.{none_relinked, relinked_more, relinked_all}
use Rattle.pin_graph.proofs.relinking.relink.Goals as goal

pub loop-pin-init : goal.loop-pin-init
loop-pin-init c = none_relinked c.args.store.now c.args.network.now c.args.ins.now c.args.outs.now c.requires.both

pub relink_pin-requires-clause-both : goal.relink_pin-requires-clause-both
relink_pin-requires-clause-both c = c.loop-pin.invariant.both

pub relink_pin-requires-clause-pin : goal.relink_pin-requires-clause-pin
relink_pin-requires-clause-pin c = c.requires.pins c.loop-pin.pin-index _ c.loop-pin-test.true

pub loop-pin-preserved : goal.loop-pin-preserved
loop-pin-preserved c =
    relinked_more c.args.store.now c.args.network.now c.args.pins.now c.loop-pin.pin-index _ c.args.ins.now c.loop-pin.ins c.relink_pin.new.ins c.loop-pin.outs c.relink_pin.new.outs
    c.loop-pin-test.true c.loop-pin.invariant c.in_ok-relink_pin.ensures

pub returns : goal.returns
returns c = relinked_all c.args.store.now c.args.network.now c.args.pins.now c.loop-pin.pin-index c.args.ins.now c.loop-pin.ins c.loop-pin.outs c.loop-pin.invariant c.loop-pin-test.false
