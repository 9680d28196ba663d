use Rattle.node_rows.specs.PortTables.{under}
use Rattle.node_rows.proofs.PortLaws.{more_starts}
use Rattle.node_rows.proofs.ports.starts_at.Goals as goal

pub loop-input-preserved : goal.loop-input-preserved
loop-input-preserved c =
    λ q. more_starts c.args.split c.args.tran c.args.inputs.now c.loop-input.input-index c.input-item.result q (under c.loop-input.table q) (under c.add_start.new.table q)
    c.loop-input-test.true c.input-item.is (c.in_ok-add_start.ensures q) (c.loop-input.invariant q)
