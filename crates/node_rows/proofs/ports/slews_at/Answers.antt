use Rattle.node_rows.specs.PortTables.{under}
use Rattle.node_rows.proofs.PortLaws.{more_slews}
use Rattle.node_rows.proofs.ports.slews_at.Goals as goal

pub loop-slew-preserved : goal.loop-slew-preserved
loop-slew-preserved c =
    λ q. more_slews c.args.split c.args.tran c.args.slews.now c.loop-slew.slew-index c.slew-item.result q (under c.loop-slew.table q) (under c.add_slew.new.table q)
    c.loop-slew-test.true c.slew-item.is (c.in_ok-add_slew.ensures q) (c.loop-slew.invariant q)
