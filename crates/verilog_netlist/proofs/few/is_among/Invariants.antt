use Rattle.std.proofs.Common.{◌≡◌, drop}
use Rattle.sta_text.specs.Names.{stands, texts}
use Rattle.verilog_netlist.proofs.few.is_among.Given as goal

abbrev pub invariant-loop-known : goal.invariant-loop-known
invariant-loop-known l =
    stands (texts (drop l.known-index l.names)) l.name ≡ stands (texts l.names) l.name
