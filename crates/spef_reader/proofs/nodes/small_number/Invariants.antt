use Rattle.std.proofs.Common.{◌≡◌, ◌<◌, ◌^◌, drop}
use Rattle.sta_units.specs.Decimal.{number_on}
use Rattle.spef_reader.proofs.nodes.small_number.Given as goal

abbrev pub invariant-loop-digit : goal.invariant-loop-digit
invariant-loop-digit l =
    (number_on l.number (drop l.digit-index l.digits) ≡ number_on 0 l.digits) × (l.number < 2 ^ 32)
