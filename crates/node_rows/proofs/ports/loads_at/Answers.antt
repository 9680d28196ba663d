use Rattle.node_rows.specs.PortTables.{under}
use Rattle.node_rows.proofs.PortLaws.{more_loads}
use Rattle.node_rows.proofs.ports.loads_at.Goals as goal

pub loop-load-preserved : goal.loop-load-preserved
loop-load-preserved c =
    λ q. more_loads c.args.split c.args.loads.now c.loop-load.load-index c.load-item.result q (under c.loop-load.table q) (under c.add_load.new.table q)
    c.loop-load-test.true c.load-item.is (c.in_ok-add_load.ensures q) (c.loop-load.invariant q)
