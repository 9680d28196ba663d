use Rattle.std.proofs.Common.{◌≡◌, ◌≤◌, min, drop}
use Rattle.sta_units.specs.Decimal.{number_on}
use Rattle.sta_units.proofs.decimals.exponent_of.Given as goal

abbrev pub invariant-loop-digit : goal.invariant-loop-digit
invariant-loop-digit l =
    (l.number ≤ 31) × (min (number_on l.number (drop l.digit-index l.digits)) 31 ≡ min (number_on 0 l.digits) 31)
