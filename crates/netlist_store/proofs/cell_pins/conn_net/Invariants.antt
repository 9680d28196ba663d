use Rattle.std.proofs.Common.{◌≡◌, drop}
use Rattle.timing_defs.specs.Netlist.{conn_net}
use Rattle.netlist_store.proofs.cell_pins.conn_net.Given as goal

abbrev pub invariant-loop-conn : goal.invariant-loop-conn
invariant-loop-conn l = conn_net (drop l.conn-index l.conn-items) l.pin ≡ conn_net l.inst.conns l.pin
