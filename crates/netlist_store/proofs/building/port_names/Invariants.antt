use Rattle.std.proofs.Common.{◌≡◌, take, map}
use Rattle.timing_defs.specs.Netlist.{name_of, port_pin}
use Rattle.netlist_store.proofs.building.port_names.Given as goal

abbrev pub invariant-loop-port : goal.invariant-loop-port
invariant-loop-port l = l.names ≡ map (λ port. name_of (port_pin port)) (take l.port-index l.ports)
