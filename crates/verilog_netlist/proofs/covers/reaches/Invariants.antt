use Rattle.verilog_netlist.proofs.CoverLemmas.{IsReaching}
use Rattle.verilog_netlist.proofs.covers.reaches.Given as goal

abbrev pub invariant-loop-stretch : goal.invariant-loop-stretch
invariant-loop-stretch l = IsReaching l.stretches l.stretch-index l.end l.ends
