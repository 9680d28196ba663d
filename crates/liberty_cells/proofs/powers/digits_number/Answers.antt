-- The number before the point is at most the whole number, which is below 10^30.
use Rattle.std.proofs.Common.{arith}
use Rattle.sta_units.specs.Decimal.{number_on}
use Rattle.sta_units.proofs.Digits.{number_on-ge, number_on-append, number_of_parts}
use Rattle.liberty_cells.proofs.powers.digits_number.Goals as goal

pub number_on-requires : goal.number_on-requires
number_on-requires c =
    let whole = c.args.whole.now in
    let fraction = c.args.fraction.now in
    omega (arith, number_on-ge (number_on 0 whole) fraction, number_of_parts whole fraction c.requires.whole c.requires.fraction c.requires.short)

pub number_on-requires-2 : goal.number_on-requires-2
number_on-requires-2 c =
    rw c.number_on.ensures (number_of_parts c.args.whole.now c.args.fraction.now c.requires.whole c.requires.fraction c.requires.short)

pub returns-clause-value : goal.returns-clause-value
returns-clause-value c =
    rw (number_on-append 0 c.args.whole.now c.args.fraction.now, ← c.number_on.ensures) c.number_on-2.ensures

pub returns-clause-bound : goal.returns-clause-bound
returns-clause-bound c =
    rw (c.number_on-2.ensures, c.number_on.ensures) (number_of_parts c.args.whole.now c.args.fraction.now c.requires.whole c.requires.fraction c.requires.short)
