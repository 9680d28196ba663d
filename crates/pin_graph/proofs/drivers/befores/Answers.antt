use Rattle.pin_graph.proofs.ArcLaws.{listed_more}
use Rattle.pin_graph.specs.Joins.{before}
use Rattle.pin_graph.proofs.drivers.befores.Goals as goal

pub loop-pin-preserved : goal.loop-pin-preserved
loop-pin-preserved c =
    listed_more (before c.args.store.now) c.loop-pin.pin c.loop-pin.befores c.push.new.self c.before-in-loop-pin.result c.before-in-loop-pin.ensures c.loop-pin.invariant c.in_ok-push.ensures.ok
