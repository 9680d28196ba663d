use Rattle.netlist_store.proofs.LinkedEdits.{linked_after}
use Rattle.netlist_store.proofs.links.edit_law.Goals as goal

pub returns : goal.returns
returns c = record { linked = linked_after c.args.store.now.design c.args.change.now c.laws.ensures.linked }
