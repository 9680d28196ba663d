use Rattle.std.proofs.Common.{◌≡◌, ◌++◌, drop}
use Rattle.sta_text.specs.Names.{said}
use Rattle.verilog_netlist.specs.Late.{stretches}
use Rattle.verilog_netlist.proofs.late.stretches.Given as goal

abbrev pub invariant-loop-event : goal.invariant-loop-event
invariant-loop-event l = l.found ++ stretches (said l.places) (drop l.event-index l.events) ≡ stretches (said l.places) l.events
