use Rattle.std.proofs.Common.{◌≡◌, [], drop}
use Rattle.verilog_netlist.specs.Faults.{all_vectors}
use Rattle.verilog_netlist.proofs.checks.all_vectors.Given as goal

abbrev pub invariant-loop-event : goal.invariant-loop-event
invariant-loop-event l =
    all_vectors l.vectors (drop l.event-index l.events) ≡ all_vectors [] l.events
