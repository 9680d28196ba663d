use Rattle.std.proofs.Common.{◌≡◌, ◌-◌, ◌++◌}
use Rattle.verilog_netlist.specs.Nets.{bits, width}
use Rattle.verilog_netlist.proofs.names.bits.Given as goal

abbrev pub invariant-loop-i : goal.invariant-loop-i
invariant-loop-i l = l.names ++ bits l.span l.name l.i (width l.span - l.i) ≡ bits l.span l.name 0 (width l.span)
