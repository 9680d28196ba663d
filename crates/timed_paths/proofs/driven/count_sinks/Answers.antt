use Rattle.std.proofs.Common.{get_or}
use Rattle.node_rows.proofs.LoadForms.{read_twice}
use Rattle.timed_paths.specs.Numbers.{sink_at}
use Rattle.timed_paths.proofs.NumberLaws.{count_more}
use Rattle.timed_paths.proofs.driven.count_sinks.Goals as goal

pub loop-pin-preserved : goal.loop-pin-preserved
loop-pin-preserved c =
    count_more (sink_at c.args.store.now) c.args.pins.now c.loop-pin.pin-index (get_or c.args.pins.now c.loop-pin.pin-index 0) c.loop-pin.count c.sink_count-count.result
    c.loop-pin-test.true (read_twice c.args.pins.now c.loop-pin.pin-index 0 c.loop-pin-test.true) c.sink_count-count.ensures.value c.sink_count-count.ensures.most c.loop-pin.invariant
