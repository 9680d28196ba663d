use Rattle.std.proofs.Common.{◌≡◌, [], drop}
use Rattle.verilog_netlist.specs.Faults.{all_directed}
use Rattle.verilog_netlist.proofs.checks.all_directed.Given as goal

abbrev pub invariant-loop-event : goal.invariant-loop-event
invariant-loop-event l =
    all_directed l.names (drop l.event-index l.events) ≡ all_directed [] l.events
