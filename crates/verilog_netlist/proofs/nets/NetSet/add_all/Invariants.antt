use Rattle.std.proofs.Common.{◌≡◌, drop}
use Rattle.verilog_netlist.specs.Faults.{with_names}
use Rattle.verilog_netlist.proofs.nets.NetSet.add_all.Given as goal

abbrev pub invariant-loop-name : goal.invariant-loop-name
invariant-loop-name l =
    with_names l.self (drop l.name-index l.names) ≡ with_names l.fn.self l.names
