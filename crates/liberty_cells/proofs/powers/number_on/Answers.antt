-- The number so far is at most the whole number, which fits.
use Rattle.std.proofs.Common.{rules}
use Rattle.sta_units.proofs.Digits.{number_on-fits}
use Rattle.liberty_cells.proofs.powers.number_on.Goals as goal

pub overflow_mul-number : goal.overflow_mul-number
overflow_mul-number c =
    search (rules, number_on-fits c.loop-digit.number c.loop-digit.digit-index c.args.digits.now _ c.loop-digit-test.true c.loop-digit.invariant)

pub overflow_add-number : goal.overflow_add-number
overflow_add-number c =
    search (rules, number_on-fits c.loop-digit.number c.loop-digit.digit-index c.args.digits.now _ c.loop-digit-test.true c.loop-digit.invariant)
