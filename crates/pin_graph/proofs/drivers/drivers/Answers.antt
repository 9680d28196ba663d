use Rattle.pin_graph.proofs.ArcLaws.{listed_more}
use Rattle.store_pins.specs.Drivers.{driver_at}
use Rattle.pin_graph.proofs.drivers.drivers.Goals as goal

pub loop-net-preserved : goal.loop-net-preserved
loop-net-preserved c =
    listed_more (driver_at c.args.store.now) c.loop-net.net c.loop-net.drivers c.push.new.self c.driver_at.result c.driver_at.ensures c.loop-net.invariant c.in_ok-push.ensures.ok
