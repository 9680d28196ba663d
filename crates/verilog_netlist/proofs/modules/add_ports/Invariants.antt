use Rattle.std.proofs.Common.{◌≡◌, ◌++◌, drop, map}
use Rattle.verilog_netlist.specs.Modules.{port_of}
use Rattle.verilog_netlist.proofs.modules.add_ports.Given as goal

abbrev pub invariant-loop-name : goal.invariant-loop-name
invariant-loop-name l =
    l.ports ++ map (port_of l.dir) (drop l.name-index l.names) ≡ l.fn.ports ++ map (port_of l.dir) l.names
