use Rattle.node_rows.proofs.RenewLaws.{first_more}
use Rattle.node_rows.proofs.wire_updates.first_items.Goals as goal

pub loop-at-preserved : goal.loop-at-preserved
loop-at-preserved g c =
    first_more c.args.table.now c.loop-at.first c.push.new.self c.loop-at.at c.get.result.now c.loop-at.invariant c.get.ensures c.in_ok-push.ensures.ok
