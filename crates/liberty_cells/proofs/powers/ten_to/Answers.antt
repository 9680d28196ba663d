-- 10^30 fits 128 bits.
use Rattle.std.proofs.Common.{◌<◌, ◌≤◌, ◌^◌, arith}
use Rattle.std.proofs.Math.Nat.{pow-le-pow_right}
use Rattle.liberty_cells.proofs.powers.ten_to.Goals as goal

pub pow-requires : goal.pow-requires
pow-requires c =
    let ten : 0 < 10 = omega arith in
    let top : 10 ^ c.args.power ≤ 10 ^ 30 = pow-le-pow_right ten c.requires in
    omega (arith, top)
