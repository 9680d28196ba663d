use Rattle.std.proofs.Common.{◌≡◌, ◌≤◌, false, length}
use Rattle.sdc_reader.specs.Grammar.{listed}
use Rattle.sdc_reader.specs.Reads.{whole}
use Rattle.sdc_reader.proofs.objects.list.Given as goal

abbrev pub invariant-each : goal.invariant-each
invariant-each l =
    (whole l.size (listed l.list l.filled) l.cursor l.out.items ≡ whole l.size (listed l.list false) l.initial.cursor l.initial.out.items)
    × (length l.cursor ≤ length l.initial.cursor)

abbrev pub decreases-each : goal.decreases-each
decreases-each l = length l.cursor
