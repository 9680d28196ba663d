use Rattle.std.proofs.Common.{◌≡◌, drop}
use Rattle.sta_text.specs.Faults.{least_from}
use Rattle.verilog_netlist.specs.Faults.{whole_vectors}
use Rattle.verilog_netlist.proofs.checks.whole_vectors.Given as goal

abbrev pub invariant-loop-event : goal.invariant-loop-event
invariant-loop-event l =
    least_from l.least (whole_vectors l.vectors (drop l.event-index l.events)) ≡ least_from l.fn.best (whole_vectors l.fn.known l.events)
