use Rattle.node_rows.proofs.RenewLaws.{names_more}
use Rattle.node_rows.proofs.wire_updates.renew_nets.Goals as goal

pub loop-name-preserved : goal.loop-name-preserved
loop-name-preserved c =
    names_more c.args.store.now c.args.names.now c.loop-name.name-index c.name-item.result c.loop-name-test.true c.name-item.is c.loop-name.wires c.renew_named.new.wires
    c.in_ok-renew_named.ensures.renewed c.loop-name.invariant
