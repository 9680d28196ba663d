-- A count that stops at 31 tells each number up to 30.
use Rattle.std.proofs.Common.{arith}
use Rattle.sta_units.proofs.Digits.{capped-step}
use Rattle.sta_units.proofs.decimals.exponent_of.Goals as goal

pub loop-digit-preserved : goal.loop-digit-preserved
loop-digit-preserved c = (
  omega arith,
  capped-step c.loop-digit.number c.loop-digit.digit-index c.min-number.result c.args.digits.now _ c.loop-digit-test.true
      (omega arith) c.loop-digit.invariant.1,
)
