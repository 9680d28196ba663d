use Rattle.std.proofs.Common.{◌≡◌, ◌≤◌, length}
use Rattle.verilog_netlist.specs.Grammar.{declared_next}
use Rattle.verilog_netlist.specs.Reads.{whole}
use Rattle.verilog_netlist.proofs.header.declaration.Given as goal

abbrev pub invariant-each : goal.invariant-each
invariant-each l =
    (whole l.size (declared_next l.kind) l.cursor l.out.items ≡ whole l.size (declared_next l.kind) l.initial.cursor l.initial.out.items)
    × (length l.cursor ≤ length l.initial.cursor)

abbrev pub decreases-each : goal.decreases-each
decreases-each l = length l.cursor
