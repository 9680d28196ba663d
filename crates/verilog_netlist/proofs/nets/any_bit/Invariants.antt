use Rattle.std.proofs.Common.{◌≡◌, Some, drop}
use Rattle.std.specs.List.{list_any}
use Rattle.sta_text.specs.Names.{stands}
use Rattle.verilog_netlist.specs.Nets.{nets_of}
use Rattle.verilog_netlist.proofs.nets.any_bit.Given as goal

abbrev pub invariant-loop-net : goal.invariant-loop-net
invariant-loop-net l =
    list_any (stands (nets_of (Some l.span) l.name)) (drop l.net-index l.nets)
    ≡ list_any (stands (nets_of (Some l.span) l.name)) l.nets
