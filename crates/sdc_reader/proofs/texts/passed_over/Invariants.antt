use Rattle.std.proofs.Common.{◌≡◌, ◌≤◌, ℕ, length}
use Rattle.sdc_reader.specs.Grammar.{passed_over}
use Rattle.sdc_reader.specs.Reads.{whole}
use Rattle.sdc_reader.proofs.texts.passed_over.Given as goal

abbrev pub invariant-each : goal.invariant-each
invariant-each l =
    ((size : ℕ) → whole size passed_over l.cursor l.out.items ≡ whole size passed_over l.initial.cursor l.initial.out.items)
    × (length l.cursor ≤ length l.initial.cursor)

abbrev pub decreases-each : goal.decreases-each
decreases-each l = length l.cursor
