use Rattle.through_paths.proofs.StopLaws.{stops_more}
use Rattle.through_paths.proofs.stops.stops_of.Goals as goal

pub loop-pin-preserved : goal.loop-pin-preserved
loop-pin-preserved c =
    stops_more c.args.graph.now.stored c.args.nodes.now c.args.pins.now c.loop-pin.pin-index c.pin-item.result c.loop-pin.stops c.push.new.self c.stop_of.result c.loop-pin-test.true
    c.pin-item.is c.loop-pin.invariant c.stop_of.ensures c.in_ok-push.ensures.ok
