use Rattle.std.proofs.Common.{◌≡◌, drop}
use Rattle.sta_text.specs.Faults.{least_from}
use Rattle.verilog_netlist.specs.Faults.{undeclared_bits}
use Rattle.verilog_netlist.proofs.declarations.undeclared_bits.Given as goal

abbrev pub invariant-loop-event : goal.invariant-loop-event
invariant-loop-event l =
    least_from l.least (undeclared_bits l.declared (drop l.event-index l.events)) ≡ least_from l.fn.best (undeclared_bits l.declared l.events)
