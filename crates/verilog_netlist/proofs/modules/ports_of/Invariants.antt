use Rattle.std.proofs.Common.{◌≡◌, ◌++◌, drop}
use Rattle.verilog_netlist.specs.Modules.{ports_of}
use Rattle.verilog_netlist.proofs.modules.ports_of.Given as goal

abbrev pub invariant-loop-event : goal.invariant-loop-event
invariant-loop-event l =
    l.ports ++ ports_of (drop l.event-index l.events) ≡ ports_of l.events
