use Rattle.std.proofs.Common.{◌≡◌, [], drop}
use Rattle.verilog_netlist.specs.Faults.{declaration_faults, nothing, all_declared}
use Rattle.verilog_netlist.proofs.declarations.declared_nets.Given as goal

abbrev pub invariant-loop-at : goal.invariant-loop-at
invariant-loop-at l =
    (declaration_faults l.known (drop l.at l.events) ≡ declaration_faults nothing l.events)
    × (all_declared l.known.nets (drop l.at l.events) ≡ all_declared [] l.events)
