use Rattle.netlist_store.proofs.TableCopies.{same_orders}
use Rattle.netlist_store.proofs.tables.Orders.copy.Goals as goal

pub returns : goal.returns
returns c = same_orders (record { insts = c.in_ok-insts.insts; nets = c.in_ok-nets.nets; rcs = c.in_ok-rcs.rcs }) c.args.self.now c.in_ok-insts.ensures c.in_ok-nets.ensures c.in_ok-rcs.ensures
