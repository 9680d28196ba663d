use Rattle.std.proofs.Common.{◌≡◌, drop}
use Rattle.verilog_netlist.specs.Modules.{module_name}
use Rattle.verilog_netlist.proofs.modules.module_name.Given as goal

abbrev pub invariant-loop-event : goal.invariant-loop-event
invariant-loop-event l =
    module_name (drop l.event-index l.events) ≡ module_name l.events
