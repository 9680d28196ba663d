use Rattle.std.proofs.Common.{◌≡◌, drop}
use Rattle.sta_units.specs.Decimal.{number_on}
use Rattle.liberty_cells.proofs.powers.number_on.Given as goal

abbrev pub invariant-loop-digit : goal.invariant-loop-digit
invariant-loop-digit l = number_on l.number (drop l.digit-index l.digits) ≡ number_on l.fn.start l.digits
