use Rattle.std.proofs.Common.{◌≡◌, drop}
use Rattle.sta_units.specs.Decimal.{number_on}
use Rattle.eco_journal.proofs.numbers.number_on.Given as goal

abbrev pub invariant-loop-digit : goal.invariant-loop-digit
invariant-loop-digit l = number_on l.number (drop l.digit-index l.digits) ≡ number_on 0 l.digits
