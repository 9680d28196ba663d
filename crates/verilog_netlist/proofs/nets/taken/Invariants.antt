use Rattle.std.proofs.Common.{◌≡◌, ◌++◌}
use Rattle.verilog_netlist.proofs.nets.taken.Given as goal

abbrev pub invariant-loop-name : goal.invariant-loop-name
invariant-loop-name l =
    l.found ++ l.name-iterator ≡ l.fn.names.keys
