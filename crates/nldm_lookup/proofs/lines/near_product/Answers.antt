-- The product fits, and is at most the product of the bounds.
use Rattle.std.proofs.Common.{◌^◌, ◌*ℤ◌, FitsSigned, unsigned_abs, refl, arith, w64}
use Rattle.std.proofs.lemmas.Int.{to_z-of_z, fits_signed_mul, unsigned_abs-mul}
use Rattle.std.proofs.lemmas.Nat.{mul-le}
use Rattle.nldm_lookup.proofs.lines.near_product.Goals as goal

pub returns-clause-value : goal.returns-clause-value
returns-clause-value c =
    let x-fits : FitsSigned w64 c.args.x = c.ranges.x in
    let y-fits : FitsSigned w64 c.args.y = c.ranges.y in
    let fits : FitsSigned w64 (c.args.x *ℤ c.args.y) =
    fits_signed_mul w64 c.args.x c.args.y (2 ^ 30) (2 ^ 30) c.requires.x_within c.requires.y_within (omega arith) in
    simp to_z-of_z refl

pub returns-clause-bound : goal.returns-clause-bound
returns-clause-bound c =
    let size = unsigned_abs-mul c.args.x c.args.y in
    let most = mul-le (unsigned_abs c.args.x) (unsigned_abs c.args.y) (unsigned_abs c.args.x) (2 ^ 30) (omega arith) c.requires.y_within in
    rw (returns-clause-value c) (omega (arith, size, most))
