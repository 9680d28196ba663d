use Rattle.std.proofs.Common.{◌≡◌, ◌≤◌, length}
use Rattle.verilog_netlist.specs.Grammar.{port_next}
use Rattle.verilog_netlist.specs.Reads.{whole}
use Rattle.verilog_netlist.proofs.header.ports.Given as goal

abbrev pub invariant-each : goal.invariant-each
invariant-each l =
    (whole l.size (port_next l.kind) l.cursor l.out.items ≡ whole l.size (port_next l.initial.kind) l.initial.cursor l.initial.out.items)
    × (length l.cursor ≤ length l.initial.cursor)

abbrev pub decreases-each : goal.decreases-each
decreases-each l = length l.cursor
