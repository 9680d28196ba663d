-- The product fits, and is at most the product of the bounds.
use Rattle.std.proofs.Common.{◌*ℤ◌, FitsSigned, unsigned_abs, refl, arith}
use Rattle.std.proofs.lemmas.Int.{to_z-of_z, fits_signed_mul, unsigned_abs-mul}
use Rattle.std.proofs.lemmas.Nat.{mul-le}
use Rattle.sta_units.specs.Numbers.{limit}
use Rattle.path_rules.proofs.sums.product.Goals as goal
use mir.Syntax.{w64}

pub returns-clause-value : goal.returns-clause-value
returns-clause-value c =
    let count-fits : FitsSigned w64 c.args.count = c.ranges.count in
    let period-fits : FitsSigned w64 c.args.period = c.ranges.period in
    let fits : FitsSigned w64 (c.args.count *ℤ c.args.period) =
    fits_signed_mul w64 c.args.count c.args.period 1000 limit c.requires.count c.requires.period (omega arith) in
    simp to_z-of_z refl

pub returns-clause-bound : goal.returns-clause-bound
returns-clause-bound c =
    let size = unsigned_abs-mul c.args.count c.args.period in
    let most = mul-le (unsigned_abs c.args.count) (unsigned_abs c.args.period) (unsigned_abs c.args.count) limit (omega arith) c.requires.period in
    rw (returns-clause-value c) (omega (arith, size, most))
