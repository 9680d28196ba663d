use Rattle.std.proofs.Common.{◌≡◌, ◌≤◌, drop}
use Rattle.verilog_netlist.specs.Faults.{instance_excess, limit}
use Rattle.verilog_netlist.proofs.checks.instance_excess.Given as goal

abbrev pub invariant-loop-event : goal.invariant-loop-event
invariant-loop-event l =
    (instance_excess l.count (drop l.event-index l.events) ≡ instance_excess 0 l.events) × (l.count ≤ limit)
