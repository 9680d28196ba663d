use Rattle.netlist_store.proofs.TableCopies.{same_names}
use Rattle.netlist_store.proofs.tables.Names.copy.Goals as goal

pub returns-in-Ok-copy : goal.returns-in-Ok-copy
returns-in-Ok-copy c = same_names (record { insts = c.in_ok-insts.insts; nets = c.in-Ok.nets; pins = c.in-Ok-copy.pins }) c.args.self.now c.in_ok-insts.ensures c.in-Ok.ensures c.in-Ok-copy.ensures
