use Rattle.std.proofs.Common.{refl, arith}
use Rattle.path_rules.proofs.Divisors.{euclid-more, euclid-bound, euclid-all}
use Rattle.path_rules.proofs.periods.common_divisor.Goals as goal

pub loop-y-preserved : goal.loop-y-preserved
loop-y-preserved c = euclid-more c.args.a c.args.b c.loop-y.x c.loop-y.y _ c.loop-y.invariant (λ e. omega (arith, e)) refl

pub returns-clause-value : goal.returns-clause-value
returns-clause-value c = euclid-all c.args.a c.args.b c.loop-y.x c.loop-y.y c.requires c.loop-y.invariant (omega arith)

pub returns-clause-bound : goal.returns-clause-bound
returns-clause-bound c = euclid-bound c.args.a c.args.b c.loop-y.x c.loop-y.y c.requires c.loop-y.invariant (omega arith)
