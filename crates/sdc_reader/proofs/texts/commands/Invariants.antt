use Rattle.std.proofs.Common.{◌≡◌, length}
use Rattle.sdc_reader.specs.Grammar.{command}
use Rattle.sdc_reader.specs.Reads.{whole}
use Rattle.sdc_reader.proofs.texts.commands.Given as goal

abbrev pub invariant-each : goal.invariant-each
invariant-each l = whole l.size command l.cursor l.out.items ≡ whole l.size command l.initial.cursor l.initial.out.items

abbrev pub decreases-each : goal.decreases-each
decreases-each l = length l.cursor
