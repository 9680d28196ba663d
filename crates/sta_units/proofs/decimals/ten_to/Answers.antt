-- 10^31 fits 128 bits.
use Rattle.std.proofs.Common.{◌≤◌, ◌^◌, pos, arith, rules}
use Rattle.std.proofs.Math.Nat.{pow-le-pow_right, one-le-pow}
use Rattle.std.proofs.lemmas.Int.{fits_signed_from_abs, ints}
use Rattle.sta_units.proofs.decimals.ten_to.Goals as goal
use mir.Syntax.{w128}

pub returns-clause-low : goal.returns-clause-low
returns-clause-low c =
    let low : 1 ≤ 10 ^ c.args.power = one-le-pow _ _ (omega arith) in
    search (rules, ints, low)

pub returns-clause-high : goal.returns-clause-high
returns-clause-high c =
    let top : 10 ^ c.args.power ≤ 10 ^ 31 = pow-le-pow_right (omega arith) c.requires in
    search (rules, ints, top)

pub pow-requires : goal.pow-requires
pow-requires c =
    let top : 10 ^ c.args.power ≤ 10 ^ 31 = pow-le-pow_right (omega arith) c.requires in
    fits_signed_from_abs w128 (pos (10 ^ c.args.power)) (omega (arith, top))
