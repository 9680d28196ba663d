use Rattle.std.proofs.Common.{◌≡◌, ◌≤◌, length}
use Rattle.spef_reader.specs.Grammar.{header}
use Rattle.spef_reader.specs.Reads.{whole}
use Rattle.spef_reader.proofs.header.header_lines.Given as goal

abbrev pub invariant-each : goal.invariant-each
invariant-each l =
    (whole l.context header l.tokens l.out.items ≡ whole l.initial.context header l.initial.tokens l.initial.out.items)
    × (length l.tokens ≤ length l.initial.tokens)

abbrev pub decreases-each : goal.decreases-each
decreases-each l = length l.tokens
