use Rattle.std.proofs.Common.{◌≡◌, drop, None}
use Rattle.verilog_netlist.proofs.BracketLemmas.{bracket_from}
use Rattle.verilog_netlist.proofs.late.last_bracket.Given as goal

abbrev pub invariant-loop-place : goal.invariant-loop-place
invariant-loop-place l = bracket_from l.place l.last (drop l.place l.net) ≡ bracket_from 0 None l.net
