use Rattle.netlist_store.proofs.TableCopies.{same_rows}
use Rattle.netlist_store.proofs.tables.Rows.copy.Goals as goal

pub returns : goal.returns
returns c = same_rows (record { insts = c.in_ok-insts.insts; rcs = c.in_ok-rcs.rcs; net_pins = c.in_ok-net_pins.net_pins; pins = c.in_ok-pins.pins }) c.args.self.now c.in_ok-insts.ensures c.in_ok-rcs.ensures c.in_ok-net_pins.ensures c.in_ok-pins.ensures
