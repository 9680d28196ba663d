use Rattle.std.proofs.Common.{◌≡◌, take, map}
use Rattle.timing_defs.specs.Netlist.{port_pin}
use Rattle.netlist_store.specs.Building.{row_of}
use Rattle.netlist_store.proofs.building.port_rows.Given as goal

abbrev pub invariant-loop-port : goal.invariant-loop-port
invariant-loop-port l = l.rows ≡ map (λ port. row_of l.names.insts l.names.nets (port_pin port)) (take l.port-index l.ports)
