use Rattle.std.proofs.Common.{◌≡◌, drop}
use Rattle.sta_text.specs.Faults.{least_from}
use Rattle.verilog_netlist.specs.Faults.{undirected}
use Rattle.verilog_netlist.proofs.checks.undirected.Given as goal

abbrev pub invariant-loop-event : goal.invariant-loop-event
invariant-loop-event l =
    least_from l.least (undirected l.directed (drop l.event-index l.events)) ≡ least_from l.fn.best (undirected l.directed l.events)
