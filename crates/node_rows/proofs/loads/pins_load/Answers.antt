use Rattle.std.proofs.Common.{get_or, ◌∙◌}
use Rattle.rc_tree.proofs.Weighing.{total_more}
use Rattle.node_rows.specs.NetPins.{cap_at}
use Rattle.node_rows.proofs.LoadForms.{read_twice}
use Rattle.node_rows.proofs.TreeNets.{all_measured}
use Rattle.node_rows.proofs.loads.pins_load.Goals as goal

pub loop-pin-preserved : goal.loop-pin-preserved
loop-pin-preserved c =
    total_more (cap_at c.args.store.now c.args.split c.args.drivers) c.args.pins.now c.loop-pin.pin-index (get_or c.args.pins.now c.loop-pin.pin-index 0) c.loop-pin.total c.from-total.result
    (all_measured c.args.store.now c.laws.ensures.linked c.args.split c.args.drivers c.args.pins.now)
    c.loop-pin-test.true (read_twice c.args.pins.now c.loop-pin.pin-index 0 c.loop-pin-test.true) (c.from-total.ensures ∙ c.counted.ensures) c.loop-pin.invariant
