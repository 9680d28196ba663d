use Rattle.std.proofs.Common.{◌≡◌, ◌≤◌, length}
use Rattle.spef_reader.specs.Grammar.{passed}
use Rattle.spef_reader.specs.Reads.{whole}
use Rattle.spef_reader.proofs.sections.passed.Given as goal

abbrev pub invariant-each : goal.invariant-each
invariant-each l =
    (whole l.context passed l.tokens l.out.items ≡ whole l.context passed l.initial.tokens l.initial.out.items)
    × (length l.tokens ≤ length l.initial.tokens)

abbrev pub decreases-each : goal.decreases-each
decreases-each l = length l.tokens
