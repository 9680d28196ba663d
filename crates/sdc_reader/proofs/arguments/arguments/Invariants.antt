use Rattle.std.proofs.Common.{◌≡◌, ◌≤◌, length}
use Rattle.sdc_reader.specs.Grammar.{argument}
use Rattle.sdc_reader.specs.Reads.{whole, more_place}
use Rattle.sdc_reader.proofs.arguments.arguments.Given as goal

abbrev pub invariant-each : goal.invariant-each
invariant-each l =
    (whole l.size (more_place l.more) l.cursor l.out.items ≡ whole l.size (argument l.fn.line) l.initial.cursor l.initial.out.items)
    × (length l.cursor ≤ length l.initial.cursor)

abbrev pub decreases-each : goal.decreases-each
decreases-each l = length l.cursor
