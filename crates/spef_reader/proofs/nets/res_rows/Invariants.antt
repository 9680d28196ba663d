use Rattle.std.proofs.Common.{◌≡◌, ◌≤◌, length}
use Rattle.spef_reader.specs.Grammar.{res_row}
use Rattle.spef_reader.specs.Reads.{whole}
use Rattle.spef_reader.proofs.nets.res_rows.Given as goal

abbrev pub invariant-each : goal.invariant-each
invariant-each l =
    (whole l.context (res_row l.net l.valued) l.tokens l.out.items ≡ whole l.context (res_row l.net l.initial.valued) l.initial.tokens l.initial.out.items)
    × (length l.tokens ≤ length l.initial.tokens)

abbrev pub decreases-each : goal.decreases-each
decreases-each l = length l.tokens
