use Rattle.netlist_store.proofs.LinkedEdits.{linked_after_all}
use Rattle.netlist_store.proofs.links.eco_law.Goals as goal

pub returns : goal.returns
returns c = record { linked = linked_after_all c.args.store.now.design c.args.eco.now c.laws.ensures.linked }
