use Rattle.std.proofs.Common.{◌≡◌, drop}
use Rattle.sta_text.specs.Faults.{least_from}
use Rattle.verilog_netlist.specs.Faults.{wrongs}
use Rattle.verilog_netlist.proofs.checks.wrongs.Given as goal

abbrev pub invariant-loop-event : goal.invariant-loop-event
invariant-loop-event l =
    least_from l.least (wrongs (drop l.event-index l.events)) ≡ least_from l.fn.best (wrongs l.events)
