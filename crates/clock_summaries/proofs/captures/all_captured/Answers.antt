use Rattle.clock_summaries.proofs.CaptureLaws.{pin_put}
use Rattle.clock_summaries.proofs.captures.all_captured.Goals as goal

pub loop-pin-preserved : goal.loop-pin-preserved
loop-pin-preserved c =
    pin_put c.args.search.now.store.now c.args.kind c.loop-pin.pin c.loop-pin.captured c.add_pin.new.captured c.loop-pin.invariant c.in_ok-add_pin.ensures
