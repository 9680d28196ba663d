use Rattle.std.proofs.Common.{◌≡◌, ◌≤◌, length}
use Rattle.verilog_netlist.specs.Grammar.{item}
use Rattle.verilog_netlist.specs.Reads.{whole}
use Rattle.verilog_netlist.proofs.body.items.Given as goal

abbrev pub invariant-each : goal.invariant-each
invariant-each l =
    (whole l.size item l.cursor l.out.items ≡ whole l.size item l.initial.cursor l.initial.out.items)
    × (length l.cursor ≤ length l.initial.cursor)

abbrev pub decreases-each : goal.decreases-each
decreases-each l = length l.cursor
