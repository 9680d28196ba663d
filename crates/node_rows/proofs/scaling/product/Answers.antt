use Rattle.std.proofs.Common.{◌*ℤ◌, FitsSigned, unsigned_abs, refl, arith}
use Rattle.std.proofs.lemmas.Int.{to_z-of_z, fits_signed_mul, unsigned_abs-mul}
use Rattle.std.proofs.lemmas.Nat.{mul-le}
use Rattle.sta_units.specs.Numbers.{limit}
use Rattle.node_rows.proofs.scaling.product.Goals as goal
use mir.Syntax.{w128}

pub returns-clause-value : goal.returns-clause-value
returns-clause-value c =
    let x : FitsSigned w128 c.args.delay = c.ranges.delay in
    let y : FitsSigned w128 c.args.factor = c.ranges.factor in
    let fits : FitsSigned w128 (c.args.delay *ℤ c.args.factor) =
    fits_signed_mul w128 c.args.delay c.args.factor limit 10000000 c.requires.delay c.requires.factor (omega arith) in
    simp to_z-of_z refl

pub returns-clause-bound : goal.returns-clause-bound
returns-clause-bound c =
    let size = unsigned_abs-mul c.args.delay c.args.factor in
    let most = mul-le (unsigned_abs c.args.delay) (unsigned_abs c.args.factor) limit 10000000 c.requires.delay c.requires.factor in
    rw (returns-clause-value c) (omega (arith, size, most))
