use Rattle.std.proofs.Common.{◌≡◌, [], drop}
use Rattle.sta_text.specs.Faults.{least_from}
use Rattle.verilog_netlist.specs.Faults.{header_doubles}
use Rattle.verilog_netlist.proofs.checks.header_doubles.Given as goal

abbrev pub invariant-loop-event : goal.invariant-loop-event
invariant-loop-event l =
    least_from l.least (header_doubles l.names (drop l.event-index l.events)) ≡ least_from l.fn.best (header_doubles [] l.events)
