use Rattle.std.proofs.Common.{◌≡◌, [], drop}
use Rattle.verilog_netlist.specs.Faults.{net_excess, all_nets}
use Rattle.verilog_netlist.proofs.declarations.all_nets.Given as goal

abbrev pub invariant-loop-event : goal.invariant-loop-event
invariant-loop-event l =
    (net_excess l.declared l.vectors l.nets (drop l.event-index l.events) ≡ net_excess l.declared l.vectors [] l.events)
    × (all_nets l.declared l.vectors l.nets (drop l.event-index l.events) ≡ all_nets l.declared l.vectors [] l.events)
