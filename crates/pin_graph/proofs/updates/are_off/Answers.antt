use Rattle.pin_graph.specs.Renewed.{IsOff}
use Rattle.pin_graph.proofs.AfterLaws.{each_more, each_all}
use Rattle.pin_graph.proofs.updates.are_off.Goals as goal

pub loop-pin-preserved : goal.loop-pin-preserved
loop-pin-preserved c =
    each_more (IsOff c.args.network.now c.args.pins.now) c.args.list.now c.loop-pin.pin-index 0 c.loop-pin.invariant c.loop-pin-test.true
    (c.is_off.ensures c.if-not-is_off.false)

pub returns : goal.returns
returns c = λ yes. each_all (IsOff c.args.network.now c.args.pins.now) c.args.list.now c.loop-pin.pin-index c.loop-pin.invariant c.loop-pin-test.false
