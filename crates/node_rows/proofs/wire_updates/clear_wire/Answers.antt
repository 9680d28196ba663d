use Rattle.std.proofs.Common.{ap, not, ◌∙◌}
use Rattle.node_rows.proofs.RenewLaws.{none_set}
use Rattle.node_rows.proofs.wire_updates.clear_wire.Goals as goal

pub returns-then-is_none : goal.returns-then-is_none
returns-then-is_none c = none_set c.args.table.now c.args.pin c.get.result.now c.get.ensures (c.is_none.ensures ∙ ap not c.if-is_none.true)
